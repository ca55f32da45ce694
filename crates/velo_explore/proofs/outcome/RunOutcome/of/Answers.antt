use Rattle.std.proofs.Common.{◌↔◌, Bool, subst, sym}
use Rattle.std.specs.Prelude.{IsTrue}
use Rattle.velo_events.specs.Graph.{HasCycle}
use Rattle.velo_explore.proofs.OnShown.{cycle_by, known_by}
use Rattle.velo_explore.proofs.outcome.RunOutcome.of.Goals as goal

pub returns-clause-alarm : goal.returns-clause-alarm
returns-clause-alarm c =
    subst (λ (b : Bool). IsTrue b ↔ HasCycle c.args.closed.now.log) (sym c.is_some.ensures) (cycle_by c.args.closed.now c.alarm.result c.alarm.ensures.none c.alarm.ensures.some)

pub returns-clause-known : goal.returns-clause-known
returns-clause-known c = known_by c.args.closed.now.log c.alarm.result c.alarm.ensures.none c.alarm.ensures.some
