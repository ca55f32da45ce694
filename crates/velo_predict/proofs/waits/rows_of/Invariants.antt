use Rattle.std.proofs.Common.{◌≡◌, ℕ, ◌<◌, List, length}
use Rattle.std.specs.Prelude.{◌↔◌}
use Rattle.velo_events.specs.declared.event.Event.{Event}
use Rattle.velo_predict.specs.Circles.{IsInRow}
use Rattle.velo_predict.specs.Courses.{IsJudged}
use Rattle.velo_predict.specs.Deadlocks.{IsNextAction, WaitsFor}
use Rattle.velo_predict.proofs.waits.rows_of.Given as goal

abbrev pub invariant-loop-t : goal.invariant-loop-t
invariant-loop-t l = record {
  count : length l.rows.items ≡ l.t;
  each : (trace : List Event) → IsJudged l.bounds l.log trace l.judged → (t u : ℕ) → t < l.t → IsInRow l.rows.items t u ↔ WaitsFor (IsNextAction l.log trace) trace t u;
}
