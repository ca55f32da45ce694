use Rattle.std.proofs.Common.{subst}
use Rattle.velo_world.specs.FirstCycle.{IsFirstClosing, events_before}
use Rattle.velo_world.specs.LogReplay.{IsLogReplayOf}
use Rattle.velo_world.specs.NodeRoom.{IsLimitedMonitorOf}
use Rattle.velo_world.specs.World.{AlarmOf}
use Rattle.velo_world.proofs.OnFirstCycle.{watched-before}
use Rattle.velo_world.proofs.world.World.from_log.Goals as goal

pub into_world-requires-clause-stands : goal.into_world-requires-clause-stands
into_world-requires-clause-stands c =
    c.hand_out.ensures.stands c.args.log.events (subst (λ es. IsLogReplayOf c.args.config c.in_ok-replay.replay es 0) c.as_slice.ensures c.in_ok-replay.ensures.ok.entered)

pub into_world-requires-clause-watched : goal.into_world-requires-clause-watched
into_world-requires-clause-watched c =
    let came = c.in_ok-replay.ensures.ok in
    let closing = c.in_ok-replay.closing in
    let monitor = c.in_ok-replay.replay.monitor in
    let first = subst (λ es. IsFirstClosing es closing) c.as_slice.ensures came.first in
    let alarm = subst (λ es. AlarmOf es c.in-Ok.alarm) c.as_slice-2.ensures c.in-Ok.ensures.alarm in
    let watched = subst (λ es. IsLimitedMonitorOf c.args.config monitor (events_before es closing)) c.as_slice.ensures came.watched in
    rw c.hand_out.ensures.monitor (subst (IsLimitedMonitorOf c.args.config monitor) (watched-before c.args.log.events closing c.in-Ok.alarm first alarm) watched)
