use Rattle.std.proofs.Common.{◌≡◌, ◌≤◌, length, take}
use Rattle.std.specs.Prelude.{vec_capacity}
use Rattle.velo_audit.proofs.piece.copied.Given as goal

abbrev pub invariant-loop-mark : goal.invariant-loop-mark
invariant-loop-mark l = record {
  items : l.same.items ≡ take l.mark-index l.marks;
  room : length l.marks ≤ vec_capacity l.same;
}
