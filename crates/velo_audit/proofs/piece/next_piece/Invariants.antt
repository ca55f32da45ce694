use Rattle.std.proofs.Common.{◌≡◌, ◌≤◌, length}
use Rattle.velo_filter.specs.Marks.{AreMarks}
use Rattle.velo_filter.specs.Tables.{left_of}
use Rattle.velo_audit.specs.Cut.{GoesTo}
use Rattle.velo_audit.proofs.piece.next_piece.Given as goal

abbrev pub invariant-loop-position : goal.invariant-loop-position
invariant-loop-position l = record {
  end : l.piece.end.place ≡ l.position;
  goes : GoesTo (left_of l.left) l.events l.cut.place l.position l.cut.prologue.events l.piece.thinned.trace.events l.piece.thinned.places.items;
  many : length l.piece.end.marks.items ≡ 256;
  marks : AreMarks (left_of l.left) l.events l.position l.piece.end.marks.items;
}
