use Rattle.std.proofs.Common.{◌≡◌, ◌≤◌, ◌+◌, ℕ, length, take, vec_capacity, vec_len}
use Rattle.velo_ledger.specs.Book.{IsFilled}
use Rattle.velo_world.specs.World.{HoldsLiveShares, CompletesShares, RunsTo}
use Rattle.velo_world.proofs.world.World.run.Given as goal

abbrev pub invariant-loop-thread : goal.invariant-loop-thread
invariant-loop-thread l = record {
  room : length l.steps + vec_len l.outcomes ≤ vec_capacity l.outcomes + l.thread-index;
  count : length l.outcomes.items ≡ l.thread-index;
  runs : RunsTo l.fn.self l.fn.shares (take l.thread-index l.steps) l.outcomes.items l.self l.shares;
  ready : HoldsLiveShares l.self l.shares;
  filled : (t : ℕ) → IsFilled l.fn.shares t → IsFilled l.shares t;
  complete : CompletesShares l.fn.self l.fn.shares → CompletesShares l.self l.shares;
}
