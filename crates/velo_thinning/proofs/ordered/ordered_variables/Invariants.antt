use Rattle.std.proofs.Common.{◌≡◌}
use Rattle.velo_thinning.specs.Sweep.{IsSwept}
use Rattle.velo_thinning.proofs.ordered.ordered_variables.Given as goal

abbrev pub invariant-loop-position : goal.invariant-loop-position
invariant-loop-position l = record {
  bounds : l.sweep.bounds ≡ l.config.bounds;
  swept : IsSwept l.events l.position l.sweep;
}
