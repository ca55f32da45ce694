use Rattle.std.proofs.Common.{ℕ, ◌<◌, length}
use Rattle.std.specs.Prelude.{slice_index, IsTrue}
use Rattle.velo_events.specs.Graph.{conflict_at}
use Rattle.velo_traces.specs.Numbers.{HasNumbers}
use Rattle.velo_traces.specs.Places.{AllHavePlaces, sizes}
use Rattle.velo_certify.specs.Table.{numbers_before}
use Rattle.velo_certify.proofs.order.keeps_conflicts.Given as goal

abbrev pub invariant-loop-j : goal.invariant-loop-j
invariant-loop-j l = record {
  names : AllHavePlaces (sizes l.table) l.events (length l.events);
  numbers : HasNumbers l.events (numbers_before (slice_index l.places) l.j) l.table;
  keeps : (i j : ℕ) → i < j → j < l.j → IsTrue (conflict_at l.events i j) → slice_index l.places i < slice_index l.places j;
}
