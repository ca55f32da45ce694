use Rattle.std.proofs.Common.{◌-◌, ◌^◌}
use Rattle.velo_runtime.proofs.Chains.{IsSearch}
use Rattle.velo_runtime.proofs.room.comes_back.Given as goal

abbrev pub invariant-loop-thread : goal.invariant-loop-thread
invariant-loop-thread l = IsSearch l.room.world.log l.room.waits l.fn.wanted l.reached l.done

abbrev pub decreases-loop-thread : goal.decreases-loop-thread
decreases-loop-thread l = 2 ^ 64 - l.done.0
