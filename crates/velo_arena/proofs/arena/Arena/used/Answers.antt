use Rattle.std.proofs.Common.{rules}
use Rattle.velo_arena.proofs.arena.Arena.used.Goals as goal

pub returns : goal.returns
returns c = search rules
