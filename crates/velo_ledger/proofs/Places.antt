-- Elements of a list by their places.
use Rattle.std.proofs.Common.{◌≡◌, ℕ, ◌<◌, [], Option, Some, None, arith, ◌≤◌}
use Rattle.std.specs.Prelude.{slice_get}
pub use Rattle.velo_events.proofs.OnLists.{slice_get-set_same, slice_get-set_other, slice_get-replicate}

pub some_below : (t n : ℕ) → ¬ (t < n) → n ≤ t
some_below t n ge = omega arith

pub not_in_nil : {X : Type 0} (k : ℕ) (x : X) → slice_get [] k ≡ Some x → ⊥
not_in_nil k x is = cc

pub not_both : {X : Type 0} (o : Option X) (x : X) → o ≡ None → o ≡ Some x → ⊥
not_both o x none some = cc
