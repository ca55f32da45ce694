use Rattle.velo_names.proofs.OnNamings.{naming_taken, naming_again}
use Rattle.velo_names.proofs.laws.one_line.Goals as goal

pub returns-clause-text : goal.returns-clause-text
returns-clause-text c = naming_taken

pub returns-clause-again : goal.returns-clause-again
returns-clause-again c = naming_again
