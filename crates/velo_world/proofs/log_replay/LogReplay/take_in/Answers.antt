use Rattle.velo_world.proofs.log_replay.LogReplay.take_in.Goals as goal

pub returns-clause-seen : goal.returns-clause-seen
returns-clause-seen c = rw c.enter.ensures.monitor c.observe-closing.ensures.seen
