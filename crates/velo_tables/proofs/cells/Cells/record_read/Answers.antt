use Rattle.velo_tables.proofs.cells.Cells.record_read.Goals as goal

pub put_read-requires-clause-covered : goal.put_read-requires-clause-covered
put_read-requires-clause-covered c = c.with_reader-readers.ensures _ c.requires.room c.readers.ensures
