use Rattle.std.proofs.Common.{refl, sym, subst}
use Rattle.velo_events.specs.WellFormed.{IsWellFormed}
use Rattle.velo_events.proofs.OnScans.{take-next}
use Rattle.velo_world.specs.FirstCycle.{ClosesFirst}
use Rattle.velo_world.specs.World.{IsAlarm}
use Rattle.velo_world.proofs.OnAlarms.{length-before}
use Rattle.velo_world.proofs.OnFirstCycle.{ClosesFirst-push}
use Rattle.velo_world.proofs.analysis.Analysis.raise_alarm.Goals as goal

pub alarm_at-requires-clause-closes : goal.alarm_at-requires-clause-closes
alarm_at-requires-clause-closes c =
    let here = length-before c.args.events.now c.args.position c.args.event.now c.requires.here in
    subst (λ log. ClosesFirst log (record { position = c.args.position; transaction = c.args.transaction })) (sym (take-next c.args.events.now c.args.position c.args.event.now c.requires.here))
    (ClosesFirst-push _ c.args.event.now _ c.requires.acyclic c.requires.closes here c.requires.transaction)

pub alarm_at-requires-clause-well_formed : goal.alarm_at-requires-clause-well_formed
alarm_at-requires-clause-well_formed c =
    subst (IsWellFormed c.args.self.now.clocks.bounds) (sym (take-next c.args.events.now c.args.position c.args.event.now c.requires.here)) c.requires.well_formed

pub returns : goal.returns
returns c = record {
  alarm = c.alarm_at.result;
  is = subst (λ log. IsAlarm log c.alarm_at.result) (take-next c.args.events.now c.args.position c.args.event.now c.requires.here) c.alarm_at.ensures.alarm;
  here = c.alarm_at.ensures.position;
  same = refl;
}
