use Rattle.std.proofs.Common.{subst, arith}
use Rattle.velo_events.proofs.OnWellFormed.{IsWellFormed-push}
use Rattle.velo_traces.proofs.OnFlaws.{MayFollow-from_no_flaw}
use Rattle.velo_tables.specs.Clocks.{AreClocksOf}
use Rattle.velo_world.specs.World.{IsAlarm}
use Rattle.velo_world.proofs.OnAnalyses.{take-before}
use Rattle.velo_world.proofs.OnLogReplays.{well_formed-by}
use Rattle.velo_world.proofs.recorded_world.RecordedRun.raise_alarm.Goals as goal

pub clocks_of-requires-clause-well_formed : goal.clocks_of-requires-clause-well_formed
clocks_of-requires-clause-well_formed c =
    let stands = c.requires.stands.entered in
    rw c.as_slice.ensures (well_formed-by _ _ _ stands.bounds stands.heap.well_formed)

pub clocks_of-requires-clause-few : goal.clocks_of-requires-clause-few
clocks_of-requires-clause-few c =
    let short = c.requires.stands.entered.short in
    let few = c.args.self.now.config.few_events in rw c.as_slice.ensures (omega (arith, short, few))

pub append-requires-clause-stands : goal.append-requires-clause-stands
append-requires-clause-stands c = c.requires.stands.entered

pub alarm_at-alarm-requires-clause-closes : goal.alarm_at-alarm-requires-clause-closes
alarm_at-alarm-requires-clause-closes c = rw (c.as_slice-2.ensures, c.append.ensures.log) c.requires.closes

pub alarm_at-alarm-requires-clause-well_formed : goal.alarm_at-alarm-requires-clause-well_formed
alarm_at-alarm-requires-clause-well_formed c =
    let stands = c.requires.stands.entered in
    let well = well_formed-by _ _ _ stands.bounds stands.heap.well_formed in
    rw (c.as_slice-2.ensures, c.append.ensures.log, c.in-Ok.ensures.bounds) (IsWellFormed-push _ _ c.args.event.now well (MayFollow-from_no_flaw _ _ c.args.event.now well c.requires.flawless))

pub alarm_at-alarm-requires-clause-clocks : goal.alarm_at-alarm-requires-clause-clocks
alarm_at-alarm-requires-clause-clocks c =
    rw (c.as_slice-2.ensures, c.append.ensures.log, c.requires.last, take-before c.args.self.now.log.events c.args.event.now)
    (subst (AreClocksOf c.in-Ok.clocks.state) c.as_slice.ensures c.in-Ok.ensures.clocks)

pub returns-clause-stands : goal.returns-clause-stands
returns-clause-stands c = record {
  entered = c.append.ensures.stands;
  alarm = subst (λ log. IsAlarm log c.alarm_at-alarm.result) c.as_slice-2.ensures c.alarm_at-alarm.ensures.alarm;
  watched = λ none. cc;
}
