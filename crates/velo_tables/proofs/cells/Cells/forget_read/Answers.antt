use Rattle.std.proofs.Common.{◌≡◌, Bool, false}
use Rattle.std.specs.Prelude.{◌↔◌, IsTrue}
use Rattle.std.proofs.lemmas.Bool.{both_ways}
use Rattle.velo_tables.proofs.OnCells.{none-forgotten}
use Rattle.velo_tables.proofs.cells.Cells.forget_read.Goals as goal

refuted : (b : Bool) (P : Type 0) → b ≡ false → IsTrue b ↔ P → ¬ P
refuted b P off same = λ p. both_ways b off (same.1 p)

pub put_read-requires-clause-there : goal.put_read-requires-clause-there
put_read-requires-clause-there c = (c.has_room_to_read.ensures.0 c.if-has_room_to_read.true).0

pub put_read-requires-clause-room : goal.put_read-requires-clause-room
put_read-requires-clause-room c = (c.has_room_to_read.ensures.0 c.if-has_room_to_read.true).1

pub put_read-requires-clause-covered : goal.put_read-requires-clause-covered
put_read-requires-clause-covered c = c.without_reader-readers.ensures _ (c.has_room_to_read.ensures.0 c.if-has_room_to_read.true).1 c.readers.ensures

pub returns-else-has_room_to_read : goal.returns-else-has_room_to_read
returns-else-has_room_to_read c = none-forgotten c.args.self.now c.args.c.0 c.args.t.0 (refuted _ _ c.if-has_room_to_read.false c.has_room_to_read.ensures)
