use Rattle.std.proofs.Common.{◌≡◌, ◌≢◌, ℕ, ◌<◌}
use Rattle.velo_events.specs.Block.{owner}
use Rattle.velo_traces.specs.Numbers.{HasNumbers}
use Rattle.velo_traces.specs.Places.{sizes}
use Rattle.velo_certify.specs.Table.{numbers_before}
use Rattle.velo_certify.specs.Edges.{own_places}
use Rattle.velo_certify.specs.Nearest.{LeadsInto}
use Rattle.velo_certify.proofs.edges.edge_events_between.Given as goal

abbrev pub invariant-loop-at : goal.invariant-loop-at
invariant-loop-at l = record {
  sizes : sizes l.table ≡ sizes l.fn.table;
  numbers : HasNumbers l.events (numbers_before (own_places l.events l.from) l.at) l.table;
  none : (i : ℕ) → i < l.at → LeadsInto l.events l.from i → owner l.events i ≢ l.to;
}
