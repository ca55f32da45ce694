use Rattle.std.proofs.Common.{ap, ◌∙◌}
use Rattle.std.specs.Prelude.{not}
use Rattle.velo_seal.specs.Seal.{refused}
use Rattle.velo_workload.proofs.OnNames.{words_of, any_word, insert_word}
use Rattle.velo_workload.proofs.growth.insert.Goals as goal

pub returns-in-Ok-clause-names : goal.returns-in-Ok-clause-names
returns-in-Ok-clause-names c = ap words_of c.in-Ok.ensures.keys ∙ insert_word c.args.names.now.keys c.args.name

pub returns-in-Ok-clause-new : goal.returns-in-Ok-clause-new
returns-in-Ok-clause-new c = c.in-Ok.ensures.added ∙ ap not (any_word c.args.names.now.keys c.args.name)

pub invariant_of-result : goal.invariant_of-result
invariant_of-result c = refused
