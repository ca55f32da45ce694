use Rattle.std.proofs.Common.{rules}
use Rattle.velo_check.proofs.files.is_standard_input.Goals as goal

pub returns : goal.returns
returns c = search rules
