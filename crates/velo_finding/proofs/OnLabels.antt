-- Labels of blocks, each once.
use Rattle.std.proofs.Common.{◌≡◌, ℕ, ◌+◌, ◌<◌, true, false, List, [], ◌∷◌, ◌++◌, length, take, drop, map, get_or, refl, sym, ap, ◌∙◌}
use Rattle.std.specs.Prelude.{◌==◌, IsTrue, IsFalse}
use Rattle.std.proofs.lemmas.Bool.{or_from, or_left, or_right, eq-eqb, ne_eqb, eqb-true, false≢true}
use Rattle.std.proofs.lemmas.List.{map-append, take_more, take-append-drop}
use Rattle.velo_traces.specs.declared.block.Block.{Block}
use Rattle.velo_filter.specs.Left.{is_listed}
use Rattle.velo_filter.proofs.OnTables.{is_listed-append}

abbrev label : Block → ℕ
label block = block.label.0

one-is : (x n : ℕ) → IsTrue (x == n) → is_listed (x ∷ []) n ≡ true
unfolding is_listed
one-is x n match_is = or_left _ _ (eq-eqb n x (sym (eqb-true x n match_is)))

one-not : (x n : ℕ) → IsFalse (x == n) → is_listed (x ∷ []) n ≡ false
unfolding is_listed
one-not x n no_match = or_from _ _ (ne_eqb n x (λ e. false≢true (sym no_match ∙ eq-eqb x n (sym e)))) refl

module _ (blocks : List Block) (i : ℕ) (d : Block) (within : i < length blocks) where
  abbrev x : ℕ
  x = label (get_or blocks i d)

  abbrev before : List ℕ
  before = map label (take i blocks)

  labels-more : map label (take (i + 1) blocks) ≡ before ++ x ∷ []
  labels-more = ap (map label) (take_more blocks i d within) ∙ map-append label (take i blocks) (get_or blocks i d ∷ [])

  pub listed-not : (n : ℕ) → IsFalse (is_listed before n) → IsFalse (x == n) → IsFalse (is_listed (map label (take (i + 1) blocks)) n)
  listed-not n none other = ap (λ xs. is_listed xs n) labels-more ∙ (is_listed-append before (x ∷ []) n ∙ or_from _ _ none (one-not x n other))

  pub listed-yes : (n : ℕ) → IsTrue (x == n) → is_listed (map label blocks) n ≡ true
  listed-yes n match_is =
      ap (λ (xs : List Block). is_listed (map label xs) n) (sym (take-append-drop (i + 1) blocks))
      ∙ (ap (λ xs. is_listed xs n) (map-append label (take (i + 1) blocks) (drop (i + 1) blocks))
      ∙ (is_listed-append (map label (take (i + 1) blocks)) (map label (drop (i + 1) blocks)) n ∙ or_left _ _ here))
    where
      here : is_listed (map label (take (i + 1) blocks)) n ≡ true
      here = ap (λ xs. is_listed xs n) labels-more ∙ (is_listed-append before (x ∷ []) n ∙ or_right _ _ (one-is x n match_is))
