use Rattle.std.proofs.Common.{◌≤◌, length}
use Rattle.velo_traces.specs.Numbers.{HasNumbers}
use Rattle.velo_certify.specs.Links.{counted_back, IsBehind, AreShown, HasLinks}
use Rattle.velo_traces.specs.Places.{sizes, AllHavePlaces}
use Rattle.velo_certify.specs.Table.{numbers_from}
use Rattle.velo_certify.proofs.links.link_all_on.Given as goal

abbrev pub invariant-loop-at : goal.invariant-loop-at
invariant-loop-at l = record {
  within : l.at ≤ length l.events;
  names : AllHavePlaces (sizes l.table) l.events (length l.events);
  numbers : HasNumbers l.events (numbers_from (counted_back l.events) l.at) l.table;
  known : AreShown l.events (IsBehind l.events l.at) l.links l.known.items;
  links : HasLinks l.events (length l.events) l.at l.links;
}

abbrev pub decreases-loop-at : goal.decreases-loop-at
decreases-loop-at l = l.at
