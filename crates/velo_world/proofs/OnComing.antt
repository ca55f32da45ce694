-- The next event of a log, as it comes about.
use Rattle.std.proofs.Common.{◌≡◌, ℕ, ◌+◌, List, [], ◌∷◌, ◌++◌, take, Option, Some, None, sym, ap, ◌∙◌, subst}
use Rattle.std.specs.Prelude.{slice_get}
use Rattle.velo_events.specs.declared.config.Config.{Config}
use Rattle.velo_events.specs.declared.event.Event.{Event}
use Rattle.velo_events.proofs.OnScans.{take-next}
use Rattle.velo_monitor.specs.Watched.{Watched}
use Rattle.velo_world.specs.declared.first_cycle.Closing.{Closing}
use Rattle.velo_world.specs.declared.log_replay.LogReplay.{LogReplay}
use Rattle.velo_world.specs.declared.recorded_world.RecordedRun.{RecordedRun}
use Rattle.velo_world.specs.World.{AlarmOf}
use Rattle.velo_world.specs.FirstCycle.{ClosesFirst}
use Rattle.velo_world.specs.NodeRoom.{IsLimitedMonitorOf}
use Rattle.velo_world.specs.LogReplay.{ComesTo, HasSeen, IsLogReplayOf, IsQuiet}
use Rattle.velo_world.specs.RecordedRun.{FollowsFromItsEvents}
use Rattle.velo_world.proofs.OnAlarms.{length-before}
use Rattle.velo_world.proofs.OnFirstCycle.{ClosesFirst-whole}

-- ---- in a log that is there as a whole

pub comes_next : (config : Config) (events : List Event) (p : ℕ) (e : Event) (replay : LogReplay) (closing : Option Closing) → slice_get events p ≡ Some e → IsLogReplayOf config replay (take p events ++ e ∷ []) 0 → HasSeen config replay.monitor (take p events) e closing → ComesTo config events (p + 1) replay closing
comes_next config events p e replay None here entered seen =
    let next = take-next events p e here in
    record {
      entered = subst (λ t. IsLogReplayOf config replay t 0) (sym next) entered;
      watched = subst (IsLimitedMonitorOf config replay.monitor) (sym next) seen;
    }
comes_next config events p e replay (Some closing) here entered (first, last, watched) =
    let next = take-next events p e here in
    let same : closing.position ≡ p = last ∙ length-before events p e here in
    record {
      first = ClosesFirst-whole events (p + 1) closing (subst (λ t. ClosesFirst t closing) (sym next) first);
      entered = subst (λ t. IsLogReplayOf config replay t 0) (sym next ∙ ap (λ (n : ℕ). take (n + 1) events) (sym same)) entered;
      watched = subst (λ (n : ℕ). IsLimitedMonitorOf config replay.monitor (take n events)) (sym same) watched;
    }

-- ---- in one that comes event by event

pub is_quiet : (run : RecordedRun) → FollowsFromItsEvents run → run.alarm ≡ None → IsQuiet run.config run.parts run.log.events
is_quiet run stands none = record { entered = stands.entered; watched = stands.watched none }

-- the same events, with more room
pub stays_quiet : (old run : RecordedRun) (past : List Event) → FollowsFromItsEvents old → run.config ≡ old.config → run.alarm ≡ old.alarm → run.log.events ≡ old.log.events → past ≡ old.log.events
    → IsLogReplayOf run.config run.parts past 0 → IsLimitedMonitorOf run.config run.parts.monitor past → FollowsFromItsEvents run
stays_quiet old run past stands config alarm events at entered watched = record {
  entered = subst (λ t. IsLogReplayOf run.config run.parts t 0) (at ∙ sym events) entered;
  alarm = rw (events, alarm) stands.alarm;
  watched = λ _. subst (IsLimitedMonitorOf run.config run.parts.monitor) (at ∙ sym events) watched;
}

-- one event more, without a cycle
pub quiet_next : (run : RecordedRun) (monitor : Watched) (trace : List Event) → run.alarm ≡ None → IsLogReplayOf run.config run.parts run.log.events 0 → IsLimitedMonitorOf run.config monitor trace → trace ≡ run.log.events → run.parts.monitor ≡ monitor → FollowsFromItsEvents run
quiet_next run monitor trace none entered watched is same =
    let seen : IsLimitedMonitorOf run.config run.parts.monitor run.log.events = rw same (subst (IsLimitedMonitorOf run.config monitor) is watched) in
    let acyclic : AlarmOf run.log.events None = seen.stands.acyclic in
    record { entered = entered; alarm = rw none acyclic; watched = λ _. seen }
