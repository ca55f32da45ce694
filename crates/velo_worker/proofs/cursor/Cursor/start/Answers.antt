use Rattle.std.proofs.Common.{refl}
use Rattle.velo_worker.specs.Cursor.{innermost_first}
use Rattle.velo_worker.proofs.cursor.Cursor.start.Goals as goal

pub returns : goal.returns
unfolding innermost_first
returns c = refl
