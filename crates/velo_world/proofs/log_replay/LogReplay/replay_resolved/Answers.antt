use Rattle.velo_world.proofs.OnLogReplays.{well_formed-by, fault_in_log}
use Rattle.velo_world.proofs.OnComing.{comes_next}
use Rattle.velo_world.proofs.log_replay.LogReplay.replay_resolved.Goals as goal

pub returns-in-Err-clause-fault : goal.returns-in-Err-clause-fault
returns-in-Err-clause-fault c =
    let stands = c.requires.stands.entered in
    fault_in_log c.args.config.now c.args.events.now c.args.position c.args.event.now _ c.requires.here (well_formed-by _ _ _ stands.bounds stands.heap.well_formed) stands.short c.in-Err.ensures.fault

pub returns-in-Ok-clause-ok : goal.returns-in-Ok-clause-ok
returns-in-Ok-clause-ok c = comes_next c.args.config.now c.args.events.now c.args.position c.args.event.now _ _ c.requires.here c.take_in.ensures.entered c.take_in.ensures.seen
