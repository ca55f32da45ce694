-- The first of some pairs.
use Rattle.std.proofs.Common.{◌≡◌, ◌∙◌, ℕ, zero, suc, ◌+◌, ◌<◌, Option, Some, None, sym, ap, add-one, arith, ⊎_elim}
use Rattle.std.specs.Option.{option_or}
use Rattle.std.proofs.lemmas.Bool.{cases_eq}
use Rattle.velo_certify.specs.declared.edges.EdgeEvents.{EdgeEvents}
use Rattle.velo_explain.specs.Pairs.{first_pair_below}

first-next : (n : ℕ) (pair : ℕ → Option EdgeEvents) → first_pair_below (n + 1) pair ≡ option_or (first_pair_below n pair) (pair n)
unfolding first_pair_below
first-next n pair = ap (λ k. first_pair_below k pair) (add-one n)

first-here : (n : ℕ) (pair : ℕ → Option EdgeEvents) → first_pair_below n pair ≡ None → first_pair_below (n + 1) pair ≡ pair n
first-here n pair before = first-next n pair ∙ ap (λ p. option_or p (pair n)) before

pub first-none : (n : ℕ) (pair : ℕ → Option EdgeEvents) → first_pair_below n pair ≡ None → pair n ≡ None → first_pair_below (n + 1) pair ≡ None
first-none n pair before here = first-here n pair before ∙ here

first-later : (m : ℕ) (pair : ℕ → Option EdgeEvents) (x : EdgeEvents) → first_pair_below m pair ≡ Some x → first_pair_below (m + 1) pair ≡ Some x
first-later m pair x is = first-next m pair ∙ ap (λ p. option_or p (pair m)) is

pub first-some : (n m : ℕ) (pair : ℕ → Option EdgeEvents) (x : EdgeEvents) → n < m → first_pair_below n pair ≡ None → pair n ≡ Some x → first_pair_below m pair ≡ Some x
first-some n zero pair x within before here = absurd (omega (arith, within))
first-some n (suc m) pair x within before here =
    ap (λ k. first_pair_below k pair) (sym (add-one m))
    ∙ ⊎_elim
    (λ e. ap (λ k. first_pair_below (k + 1) pair) (sym e) ∙ (first-here n pair before ∙ here))
    (λ e. first-later m pair x (first-some n m pair x (omega (arith, within, e)) before here))
    (cases_eq n m)
