use Rattle.std.proofs.Common.{◌≡◌, ℕ, ◌≤◌, length}
use Rattle.std.specs.Prelude.{slice_index, IsTrue}
use Rattle.velo_events.specs.Graph.{Edge}
use Rattle.velo_traces.specs.Numbers.{HasNumbers}
use Rattle.velo_traces.specs.Places.{sizes}
use Rattle.velo_certify.specs.Levels.{level_numbers, IsPassed}
use Rattle.velo_certify.specs.Table.{numbers_from}
use Rattle.velo_certify.proofs.distances.reach_level.Given as goal

abbrev pub invariant-loop-at : goal.invariant-loop-at
invariant-loop-at l = record {
  within : l.at ≤ length l.events;
  sizes : sizes l.table ≡ sizes l.fn.table;
  numbers : HasNumbers l.events (numbers_from (level_numbers l.events l.reached.distance.items l.level) l.at) l.table;
  passed : IsPassed l.events l.level l.at l.fn.reached l.reached;
  closed : IsTrue l.is_closed → (c : ℕ) × Edge l.events l.target c × (slice_index l.fn.reached.distance.items c ≡ l.level);
}

abbrev pub decreases-loop-at : goal.decreases-loop-at
decreases-loop-at l = l.at
