use Rattle.std.proofs.Common.{◌≡◌, length}
use Rattle.velo_traces.specs.Numbers.{HasNumbers}
use Rattle.velo_certify.specs.Links.{counted, IsBefore, AreShown, HasLinks}
use Rattle.velo_traces.specs.Places.{sizes, AllHavePlaces}
use Rattle.velo_certify.specs.Table.{numbers_before}
use Rattle.velo_certify.proofs.links.link_all_back.Given as goal

abbrev pub invariant-loop-at : goal.invariant-loop-at
invariant-loop-at l = record {
  same : sizes l.table ≡ sizes l.fn.table;
  names : AllHavePlaces (sizes l.table) l.events (length l.events);
  numbers : HasNumbers l.events (numbers_before counted l.at) l.table;
  known : AreShown l.events (IsBefore l.at) l.links l.known.items;
  links : HasLinks l.events l.at (length l.events) l.links;
}
