use Rattle.std.proofs.Common.{◌≡◌, ℕ, length}
use Rattle.std.specs.Prelude.{◌⊎◌, ◌↔◌, IsTrue}
use Rattle.velo_audit.specs.Marks.{mark_at}
use Rattle.velo_audit.specs.Open.{IsAmong}
use Rattle.velo_audit.proofs.marks.mark.Given as goal

abbrev pub invariant-loop-k : goal.invariant-loop-k
invariant-loop-k l = record {
  size : length l.marks.items ≡ length l.initial.marks.items;
  marked : (b : ℕ) → IsTrue (mark_at l.marks.items b) ↔ (IsTrue (mark_at l.initial.marks.items b) ⊎ IsAmong l.these l.k b);
}
