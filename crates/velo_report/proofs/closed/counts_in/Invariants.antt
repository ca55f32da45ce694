use Rattle.std.proofs.Common.{◌≡◌, ℕ, ◌<◌, List, length, Some}
use Rattle.std.specs.Prelude.{slice_get}
use Rattle.velo_events.specs.declared.event.Event.{Event}
use Rattle.velo_events.specs.Tally.{events_of}
use Rattle.velo_ledger.specs.Logs.{AreTalliesOf}
use Rattle.velo_report.proofs.closed.counts_in.Given as goal

abbrev pub invariant-loop-t : goal.invariant-loop-t
invariant-loop-t l = record {
  size : length l.counts ≡ 64;
  each : (log : List Event) → AreTalliesOf log l.book.rows → (t : ℕ) → t < l.t → slice_get l.counts t ≡ Some (events_of log t);
}
