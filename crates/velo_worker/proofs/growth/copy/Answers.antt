use Rattle.velo_seal.specs.Seal.{refused}
use Rattle.velo_worker.proofs.growth.copy.Goals as goal

pub invariant_of-result : goal.invariant_of-result
invariant_of-result g c = refused
