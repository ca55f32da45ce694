use Rattle.std.proofs.Common.{◌≡◌, ℕ, List, Some, map, take}
use Rattle.std.specs.Prelude.{slice_get}
use Rattle.velo_events.specs.declared.event.Event.{Event}
use Rattle.velo_predict.specs.Waits.{AreDue, HasNext}
use Rattle.velo_predict.proofs.waits.waiting_of.Given as goal

abbrev pub invariant-loop-i : goal.invariant-loop-i
invariant-loop-i l = record {
  threads : map (λ w. w.thread.0) l.waiting.items ≡ take l.i l.circle;
  due : (trace : List Event) → ((k t : ℕ) → slice_get l.circle k ≡ Some t → HasNext l.log trace l.judged t) → AreDue l.log trace l.waiting.items;
}
