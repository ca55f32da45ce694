use Rattle.std.proofs.Common.{◌≡◌, ◌++◌}
use Rattle.velo_words.specs.Waits.{holder_text, texts_below}
use Rattle.velo_words.proofs.waits.add_holders.Given as goal

abbrev pub invariant-loop-thread : goal.invariant-loop-thread
invariant-loop-thread l = l.text.items ≡ l.fn.text.items ++ texts_below (holder_text l.fn.workload l.fn.closed.log l.fn.lock.0) l.thread
