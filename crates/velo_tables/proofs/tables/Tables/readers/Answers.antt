use Rattle.std.proofs.Common.{subst}
use Rattle.velo_tables.specs.LastAccesses.{CoverReaders}
use Rattle.velo_tables.proofs.tables.Tables.readers.Goals as goal

pub returns : goal.returns
returns c = subst (λ kept. CoverReaders kept c.args.c.0 c.readers.result) c.self.view_is (record { each = c.readers.ensures.covers })
