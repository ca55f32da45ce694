use Rattle.std.proofs.Common.{rules}
use Rattle.velo_check.proofs.input.fault_of.Goals as goal

pub returns-in-Refused : goal.returns-in-Refused
returns-in-Refused c = search rules
