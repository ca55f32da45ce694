use Rattle.velo_heap.specs.Contents.{bounds_of}
use Rattle.velo_search.specs.Judged.{SettlesIn}
use Rattle.velo_search.proofs.settling.settle_thread.Given as goal

abbrev pub invariant-loop-step : goal.invariant-loop-step
invariant-loop-step l = SettlesIn (bounds_of l.fn.state.heap) l.fn.scripts l.fn.trail l.fn.state l.trail l.state
