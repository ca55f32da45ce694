use Rattle.std.proofs.Common.{ap, ◌∙◌}
use Rattle.velo_events.specs.Place.{LastRead}
use Rattle.velo_tables.specs.LastAccesses.{entry}
use Rattle.velo_tables.proofs.tables.Tables.last_read.Goals as goal

pub returns : goal.returns
returns c = c.last_read.ensures ∙ ap (λ kept. entry kept (LastRead c.args.c.0 c.args.t.0)) c.self.view_is
