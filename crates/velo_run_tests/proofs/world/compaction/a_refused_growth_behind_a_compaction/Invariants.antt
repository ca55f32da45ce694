use Rattle.velo_world.specs.World.{HoldsLiveShares}
use Rattle.velo_run_tests.proofs.world.compaction.a_refused_growth_behind_a_compaction.Given as goal

abbrev pub invariant-loop-place : goal.invariant-loop-place
invariant-loop-place g l = HoldsLiveShares l.world l.shares
