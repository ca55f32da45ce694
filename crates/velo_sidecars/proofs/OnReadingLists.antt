-- The steps of the reader.
use Rattle.std.proofs.Common.{◌≡◌, ℕ, ◌+◌, Bool, false, cond, nat_lt, List, [], ◌∷◌, ◌++◌, Option, Some, Result, Ok, Err, refl, sym, ap, ◌∙◌}
use Rattle.std.specs.Option.{option_map_or}
use Rattle.std.proofs.lemmas.List.{map-append}
use Rattle.velo_names.specs.declared.limits.TheConstants.{MAX_NAME_LINES}
use Rattle.velo_sidecars.specs.declared.list_fault.ListFault.{ListFault}
use Rattle.velo_sidecars.specs.declared.list_fault.ListFault.TheVariants.{BadLine, TooManyLines}
use Rattle.velo_sidecars.specs.declared.list_line.Entry.{Entry as Found}
use Rattle.velo_sidecars.specs.declared.list_line.Scope.{Scope}
use Rattle.velo_sidecars.specs.ListAnswers.{entries, entry}
use Rattle.velo_sidecars.specs.ListLine.{Entry, entry_of}
use Rattle.velo_sidecars.specs.List.{and_then, entries_after, entries_from}

-- ---- one line

abbrev by_tests : Bool → Option Entry → List Entry → ℕ → Result (List Entry) ListFault
by_tests many said so_far n = cond many (Err TooManyLines) (option_map_or (λ e. Ok (so_far ++ e ∷ [])) said (Err (BadLine n)))

after_is : (scope : Scope) (so_far : List Entry) (n : ℕ) (line : List ℕ) → entries_after scope so_far n line ≡ by_tests (nat_lt MAX_NAME_LINES n) (entry_of scope line) so_far n
unfolding entries_after
after_is scope so_far n line = refl

few : (scope : Scope) (so_far : List Entry) (n : ℕ) (line : List ℕ) → nat_lt MAX_NAME_LINES n ≡ false → entries_after scope so_far n line ≡ by_tests false (entry_of scope line) so_far n
few scope so_far n line e = after_is scope so_far n line ∙ ap (λ (v : Bool). by_tests v (entry_of scope line) so_far n) e

pub one_entry : (scope : Scope) (so_far : List Entry) (n : ℕ) (line : List ℕ) (x : Entry) → nat_lt MAX_NAME_LINES n ≡ false → entry_of scope line ≡ Some x → entries_after scope so_far n line ≡ Ok (so_far ++ x ∷ [])
one_entry scope so_far n line x e some = few scope so_far n line e ∙ ap (λ (o : Option Entry). by_tests false o so_far n) some

-- one more entry is there
pub taken : (scope : Scope) (found more : List Found) (x : Found) (n : ℕ) (line : List ℕ) → nat_lt MAX_NAME_LINES n ≡ false → entry_of scope line ≡ Some (entry x) → more ≡ found ++ x ∷ [] → entries_after scope (entries found) n line ≡ Ok (entries more)
taken scope found more x n line e some is = one_entry scope (entries found) n line (entry x) e some ∙ ap Ok (sym (ap entries is ∙ map-append entry found (x ∷ [])))

-- ---- all lines

abbrev wrong : ListFault → Result (Unit {0}) ListFault
wrong fault = Err fault

pub line_wrong : (scope : Scope) (so_far : List Entry) (n : ℕ) (line : List ℕ) (others : List (List ℕ)) (f : ListFault) → entries_after scope so_far (n + 1) line ≡ Err f → entries_from scope so_far n (line ∷ others) ≡ Err f
line_wrong scope so_far n line others f e = ap (λ (r : Result (List Entry) ListFault). and_then r (λ more. entries_from scope more (n + 1) others)) e

pub line_right : (scope : Scope) (so_far more : List Entry) (n : ℕ) (line : List ℕ) (others : List (List ℕ)) → entries_after scope so_far (n + 1) line ≡ Ok more → entries_from scope so_far n (line ∷ others) ≡ entries_from scope more (n + 1) others
line_right scope so_far more n line others e = ap (λ (r : Result (List Entry) ListFault). and_then r (λ more. entries_from scope more (n + 1) others)) e
