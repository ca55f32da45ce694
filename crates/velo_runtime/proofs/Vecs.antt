-- Two lists on the heap are one where all that they have is the same.
use Rattle.std.proofs.Common.{◌≡◌, ◌≤◌, ◌<◌, ◌^◌, Vec, length}
use mathlib.Core.HLevel.{is_prop→PathP}
use native.Mathlib.Nat.{ℕ_set}
use native.Mathlib.Bridge.{le_prop}

pub same_vec : {X Z : Type 0} (v w : Vec X Z) → v.ptr ≡ w.ptr → v.len ≡ w.len → v.cap ≡ w.cap → v.alloc ≡ w.alloc → v.items ≡ w.items → v ≡ w
same_vec v w ptr len cap alloc items = λ i. record {
  ptr = ptr i;
  len = len i;
  cap = cap i;
  alloc = alloc i;
  items = items i;
  ok = is_prop→PathP (λ j. (len j ≡ length (items j)) × (len j ≤ cap j)) (λ j x y k. (ℕ_set _ _ x.0 y.0 k, le_prop x.1 y.1 k)) v.ok w.ok i;
  small = is_prop→PathP (λ j. cap j < 2 ^ 63) (λ j x y k. le_prop x y k) v.small w.small i;
}
