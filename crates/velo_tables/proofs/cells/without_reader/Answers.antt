use Rattle.velo_tables.proofs.OnReaders.{AreReaders-clear}
use Rattle.velo_tables.proofs.cells.without_reader.Goals as goal

pub returns : goal.returns
returns c = λ reads inside are. AreReaders-clear c.args.readers reads c.args.t.0 inside are
