use Rattle.std.proofs.Common.{◌≡◌, false}
use Rattle.std.specs.Prelude.{not, ◌&&◌, ◌==◌}
use Rattle.velo_events.specs.Heap.{shares_in}
use Rattle.velo_events.specs.Block.{any_below}
use Rattle.velo_traces.proofs.judge.is_shared_beside.Given as goal

abbrev pub invariant-loop-u : goal.invariant-loop-u
invariant-loop-u l = any_below l.u (λ u. not (u == l.t.0) && shares_in l.events l.m.0 u) ≡ false
