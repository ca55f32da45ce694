use Rattle.std.proofs.Common.{◌≡◌}
use Rattle.velo_filter.specs.Tables.{left_of}
use Rattle.velo_delays.specs.Found.{AreFoundIn, left_out_behind}
use Rattle.velo_delays.proofs.rounds.search.Given as goal

abbrev pub invariant-loop : goal.invariant-loop
invariant-loop l = record {
  behind : left_of l.left ≡ left_out_behind (left_of l.fn.left) l.searched.found.items;
  found : AreFoundIn l.config.bounds l.log.events (left_of l.fn.left) l.searched.found.items;
}
