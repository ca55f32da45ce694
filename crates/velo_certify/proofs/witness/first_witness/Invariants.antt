use Rattle.std.proofs.Common.{ℕ, ◌<◌}
use Rattle.velo_certify.specs.Witness.{IsWitness}
use Rattle.velo_certify.proofs.witness.first_witness.Given as goal

abbrev pub invariant-loop-at : goal.invariant-loop-at
invariant-loop-at l = (w : ℕ) → w < l.at → ¬ IsWitness l.events l.begin l.position w
