use Rattle.std.proofs.Common.{rules}
use Rattle.velo_arena.proofs.arena.Arena.is_used.Goals as goal

pub returns-in-Some : goal.returns-in-Some
returns-in-Some c = search rules
