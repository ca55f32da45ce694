use Rattle.std.proofs.Common.{sym, ap, ◌∙◌, subst}
use Rattle.velo_arena.specs.Slots.{used_in}
use Rattle.velo_monitor.specs.Collection.{HasManyLive}
use Rattle.velo_monitor.proofs.OnLive.{used-live, accounted-by_stamps, given_up-harmless}
use Rattle.velo_monitor.proofs.monitor.Monitor.used.Goals as goal

pub returns-clause-live : goal.returns-clause-live
returns-clause-live c bounds trace stands = subst (HasManyLive trace) (sym (c.used.ensures ∙ ap (λ w. used_in w.nodes.slots) c.self.view_is)) (used-live bounds c.args.self.now trace stands)

pub returns-clause-accounted : goal.returns-clause-accounted
returns-clause-accounted c bounds trace stands = accounted-by_stamps bounds c.args.self.now trace stands

pub returns-clause-given_up : goal.returns-clause-given_up
returns-clause-given_up c bounds trace stands = given_up-harmless bounds c.args.self.now trace stands
