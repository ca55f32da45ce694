use Rattle.std.proofs.Common.{◌∙◌}
use Rattle.velo_workload.proofs.OnNames.{any_word_by}
use Rattle.velo_workload.proofs.names.is_among.Goals as goal

pub returns : goal.returns
returns c = c.contains.ensures ∙ any_word_by c.args.names.now.keys c.args.name.now
