use Rattle.velo_world.specs.World.{HoldsLiveShares}
use Rattle.velo_run_tests.proofs.check.slow.world_by_chance.Given as goal

abbrev pub invariant-loop-i : goal.invariant-loop-i
invariant-loop-i g l = HoldsLiveShares l.world l.shares
