-- The steps of the reader.
use Rattle.std.proofs.Common.{◌≡◌, ℕ, ◌+◌, Bool, false, cond, nat_lt, List, [], ◌∷◌, Option, Some, Result, Ok, Err, refl, sym, ap, subst, ◌∙◌}
use Rattle.std.specs.Option.{option_map_or}
use Rattle.velo_names.specs.declared.limits.TheConstants.{MAX_NAME_LINES}
use Rattle.velo_names.specs.declared.fault.NamesFault.{NamesFault}
use Rattle.velo_names.specs.declared.fault.NamesFault.TheVariants.{BadLine, TooManyLines}
use Rattle.velo_names.specs.Line.{Naming, naming_of, is_silent}
use Rattle.velo_names.specs.Names.{NameLists, names_with, names_after, and_then, names_from}

-- ---- one line

abbrev by_tests : Bool → Bool → Option Naming → NameLists → ℕ → Result NameLists NamesFault
by_tests many silent said names n = cond many (Err TooManyLines) (cond silent (Ok names) (option_map_or (λ x. names_with names x n) said (Err (BadLine n))))

after_is : (names : NameLists) (n : ℕ) (line : List ℕ) → names_after names n line ≡ by_tests (nat_lt MAX_NAME_LINES n) (is_silent line) (naming_of line) names n
unfolding names_after
after_is names n line = refl

few : (names : NameLists) (n : ℕ) (line : List ℕ) → nat_lt MAX_NAME_LINES n ≡ false → names_after names n line ≡ by_tests false (is_silent line) (naming_of line) names n
few names n line e = after_is names n line ∙ ap (λ (v : Bool). by_tests v (is_silent line) (naming_of line) names n) e

pub named : (names : NameLists) (n : ℕ) (line : List ℕ) (x : Naming) → nat_lt MAX_NAME_LINES n ≡ false → is_silent line ≡ false → naming_of line ≡ Some x → names_after names n line ≡ names_with names x n
named names n line x e loud some =
    few names n line e ∙ ap (λ (v : Bool). by_tests false v (naming_of line) names n) loud ∙ ap (λ (o : Option Naming). by_tests false false o names n) some

-- ---- all lines

abbrev wrong : NamesFault → Result (Unit {0}) NamesFault
wrong fault = Err fault

pub line_wrong : (names : NameLists) (n : ℕ) (line : List ℕ) (others : List (List ℕ)) (f : NamesFault) → names_after names (n + 1) line ≡ Err f → names_from names n (line ∷ others) ≡ Err f
line_wrong names n line others f e = ap (λ (r : Result NameLists NamesFault). and_then r (λ more. names_from more (n + 1) others)) e

pub line_right : (names more : NameLists) (n : ℕ) (line : List ℕ) (others : List (List ℕ)) → names_after names (n + 1) line ≡ Ok more → names_from names n (line ∷ others) ≡ names_from more (n + 1) others
line_right names more n line others e = ap (λ (r : Result NameLists NamesFault). and_then r (λ more. names_from more (n + 1) others)) e
