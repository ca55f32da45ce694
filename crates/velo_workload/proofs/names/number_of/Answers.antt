use Rattle.std.proofs.Common.{◌∙◌}
use Rattle.velo_workload.proofs.OnNames.{number_of_word}
use Rattle.velo_workload.proofs.names.number_of.Goals as goal

pub returns : goal.returns
returns c = c.get_index_of.ensures.index ∙ number_of_word c.args.names.now.keys c.args.name.now
