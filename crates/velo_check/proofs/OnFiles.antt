-- Files of a command that are one.
use Rattle.std.specs.Prelude.{List, ℕ, Option, None, Some}
use Rattle.std.specs.Borrow.{Bor}
use Rattle.velo_check.specs.Disk.{AreOne, Disk, IsTarget}

pub to_be_written : (disk : Disk) (path : Bor (List ℕ)) (target : Option (Bor (List ℕ))) → AreOne disk (Some path) target → IsTarget disk path.now target
to_be_written disk path None one = one
to_be_written disk path (Some target) one = one
