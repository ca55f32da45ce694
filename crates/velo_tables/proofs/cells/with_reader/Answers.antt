use Rattle.velo_tables.proofs.OnReaders.{AreReaders-set}
use Rattle.velo_tables.proofs.cells.with_reader.Goals as goal

pub returns-in-Some : goal.returns-in-Some
returns-in-Some c = λ reads inside are. AreReaders-set c.args.readers reads c.args.t.0 c.args.step inside are
