use Rattle.std.proofs.Common.{rules}
use Rattle.velo_arena.proofs.arena.Arena.limit.Goals as goal

pub returns : goal.returns
returns c = search rules
