use Rattle.std.proofs.Common.{rules}
use Rattle.velo_runtime.proofs.seat.Seat.read.Goals as goal

pub returns-clause-read : goal.returns-clause-read
returns-clause-read g c = search rules
