use Rattle.std.proofs.Common.{ap, ◌∙◌}
use Rattle.velo_events.specs.Place.{LastWrite}
use Rattle.velo_tables.specs.LastAccesses.{entry}
use Rattle.velo_tables.proofs.tables.Tables.last_write.Goals as goal

pub returns : goal.returns
returns c = c.last_write.ensures ∙ ap (λ kept. entry kept (LastWrite c.args.c.0)) c.self.view_is
