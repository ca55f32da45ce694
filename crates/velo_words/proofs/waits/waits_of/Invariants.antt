use Rattle.std.proofs.Common.{◌≡◌}
use Rattle.velo_words.specs.Waits.{texts_below, wait_text}
use Rattle.velo_words.proofs.waits.waits_of.Given as goal

abbrev pub invariant-loop-thread : goal.invariant-loop-thread
invariant-loop-thread l = l.text.items ≡ texts_below (wait_text l.fn.workload l.fn.closed.log) l.thread
