use Rattle.std.proofs.Common.{refl, ◌∙◌}
use Rattle.velo_world.proofs.log_replay.LogReplay.hand_out.Goals as goal

pub loop-thread-init : goal.loop-thread-init
loop-thread-init c = record { handed = λ trace stands. stands; monitor = refl }

pub hand_to-requires-clause-stands : goal.hand_to-requires-clause-stands
hand_to-requires-clause-stands c = (c.requires.0, c.loop-thread.invariant.handed c.requires.0 c.requires.1)

pub loop-thread-preserved : goal.loop-thread-preserved
loop-thread-preserved c = record {
  handed = λ trace stands. c.hand_to.ensures.stands trace (c.loop-thread.invariant.handed trace stands);
  monitor = c.hand_to.ensures.monitor ∙ c.loop-thread.invariant.monitor;
}
