use Rattle.std.proofs.Common.{ℕ, ◌+◌, ◌*◌, ◌<◌, slice_index_or, IsTrue}
use Rattle.velo_thinning.specs.Sweep.{is_known}
use Rattle.velo_thinning.proofs.sweep.Sweep.knows_reads.Given as goal

abbrev pub invariant-loop-u : goal.invariant-loop-u
invariant-loop-u l = record {
  known : (v : ℕ) → v < l.u → IsTrue (is_known l.self.clocks l.thread.0 v (slice_index_or l.self.reads.items (l.variable * 64 + v) 0));
}
