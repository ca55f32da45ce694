use Rattle.std.proofs.Common.{◌≡◌, ◌≤◌, take, map, vec_len}
use Rattle.std.specs.Prelude.{vec_capacity}
use Rattle.velo_worker.specs.Progress.{start_of}
use Rattle.velo_worker.proofs.progress.threads_of.Given as goal

abbrev pub invariant-loop-thread : goal.invariant-loop-thread
invariant-loop-thread l =
    record {
      items : l.threads.items ≡ map start_of (take l.thread l.fn.workload.bodies);
      len : vec_len l.threads ≡ l.thread;
      room : l.count ≤ vec_capacity l.threads;
    }
