use Rattle.std.proofs.Common.{rules}
use Rattle.velo_runtime.proofs.room.Room.turn_after.Goals as goal

pub returns-then-comes_back-clause-turn : goal.returns-then-comes_back-clause-turn
returns-then-comes_back-clause-turn c = search rules
