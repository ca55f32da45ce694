use Rattle.std.proofs.Common.{◌≡◌, take}
use Rattle.velo_tables.specs.Clocks.{AreClocksOf}
use Rattle.velo_world.proofs.first_cycle.clocks_of.Given as goal

abbrev pub invariant-loop-position : goal.invariant-loop-position
invariant-loop-position l = record {
  bounds : l.clocks.bounds ≡ l.config.bounds;
  stands : AreClocksOf l.clocks.state (take l.position l.events);
}
