use Rattle.std.proofs.Common.{◌≤◌}
use Rattle.std.specs.Prelude.{vec_capacity}
use Rattle.velo_arena.specs.Kept.{CountsDown}
use Rattle.velo_arena.proofs.arena.slots_below.Given as goal

abbrev pub invariant-loop-taken : goal.invariant-loop-taken
invariant-loop-taken l = CountsDown l.slots.items l.limit l.taken × (l.limit ≤ vec_capacity l.slots)
