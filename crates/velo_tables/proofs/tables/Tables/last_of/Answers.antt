use Rattle.std.proofs.Common.{None, ap, ◌∙◌}
use Rattle.std.specs.Prelude.{slice_index_or}
use Rattle.velo_events.specs.Place.{LastOf}
use Rattle.velo_tables.specs.LastAccesses.{entry}
use Rattle.velo_tables.proofs.tables.Tables.last_of.Goals as goal

pub returns : goal.returns
returns c = c.entry_at.ensures ∙ (ap (λ items. slice_index_or items c.args.t.0 None) c.deref.ensures.value ∙ ap (λ kept. entry kept (LastOf c.args.t.0)) c.self.view_is)
