use Rattle.std.proofs.Common.{List, ◌<◌}
use Rattle.std.specs.Prelude.{slice_index}
use Rattle.velo_events.specs.declared.event.Event.{Event}
use Rattle.velo_certify.specs.Distances.{AreShortest, AreTowards}
use Rattle.velo_certify.specs.Nearest.{IsNearest}
use Rattle.velo_certify.proofs.OnCycles.{WalksBack}
use Rattle.velo_certify.proofs.cycle.cycle_through.Given as goal

abbrev pub invariant-loop-present : goal.invariant-loop-present
invariant-loop-present l = record {
  there : 0 < slice_index l.reached.distance.items l.present;
  walks : (trace : List Event) → AreShortest trace l.start l.reached.distance.items → AreTowards trace l.start l.reached.distance.items l.reached.next.items → IsNearest trace l.reached.distance.items l.start l.second → WalksBack trace l.reached.distance.items l.start l.second l.cycle.items l.present;
}

abbrev pub decreases-loop-present : goal.decreases-loop-present
decreases-loop-present l = slice_index l.reached.distance.items l.present
