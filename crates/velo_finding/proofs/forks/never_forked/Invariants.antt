use Rattle.std.proofs.Common.{◌≡◌, ◌-◌, map, not}
use Rattle.std.specs.Prelude.{filter}
use Rattle.std.specs.List.{range_with_len}
use Rattle.velo_finding.specs.Forks.{is_forked, thread_of_number}
use Rattle.velo_finding.proofs.forks.never_forked.Given as goal

abbrev pub invariant-loop-thread : goal.invariant-loop-thread
invariant-loop-thread l = l.threads.items ≡ filter (λ t. not (is_forked l.fn.workload t)) (map thread_of_number (range_with_len 1 (l.thread - 1)))
