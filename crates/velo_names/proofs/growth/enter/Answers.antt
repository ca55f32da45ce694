use Rattle.std.proofs.Common.{◌++◌, ap, sym}
use Rattle.velo_seal.specs.Seal.{refused}
use Rattle.velo_names.proofs.OnLists.{noted}
use Rattle.velo_names.proofs.growth.enter.Goals as goal

pub returns-in-Ok-clause-ok : goal.returns-in-Ok-clause-ok
returns-in-Ok-clause-ok c =
    noted _ _ c.args.name c.args.numbers c.args.numbers.items c.in-Ok.ensures.updates.0 (sym (ap (λ ns. ns ++ c.args.numbers.items) c.requires))

pub invariant_of-result : goal.invariant_of-result
invariant_of-result c = refused
