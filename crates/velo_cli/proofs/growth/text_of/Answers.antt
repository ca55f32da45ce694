use Rattle.velo_seal.specs.Seal.{refused}
use Rattle.velo_cli.proofs.growth.text_of.Goals as goal

pub invariant_of-result : goal.invariant_of-result
invariant_of-result c = refused
