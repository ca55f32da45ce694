-- Why a command does not read its input: it does not open, or two of the files are one. These
-- fates stand side by side, without an order. For a disk says what may happen at a path, and not
-- what does happen: so of two faults that may both be there, either may be told.
use Rattle.std.specs.Prelude.{◌≡◌, ◌⊎◌, if◌then◌else◌, List, Option, ℕ, Contains}
use Rattle.std.specs.Borrow.{Bor}
use Rattle.velo_check.specs.Disk.{AreOne, Disk, FailsToOpen, IsTarget}
use Rattle.velo_check.specs.Reading.{Reading}
use Rattle.velo_check.specs.declared.fate.Fate.{Fate}
use Rattle.velo_check.specs.declared.fate.Fate.TheVariants.{CannotOpen, OneFile}
use Rattle.velo_check.specs.declared.failure.Operand.{Operand}
use Rattle.velo_check.specs.declared.failure.Operand.TheVariants.{Ignore, NotAtomic, Out}
use Rattle.velo_check.specs.declared.operands.Beside.{Beside}
use Rattle.velo_check.specs.declared.request.Ignored.{Ignored}

-- Why the input of this operand is not read: it does not open; or it opens, whatever it gives, and is
-- the file of the target.
abbrev pub IsBarred : Disk → Operand → List ℕ → Option (Bor (List ℕ)) → Fate → Type 0
IsBarred disk operand input target f =
    ((f ≡ CannotOpen) × FailsToOpen disk input)
    ⊎ ((f ≡ OneFile operand Out) × IsTarget disk input target
    × ((read : Reading) × disk.gives input read))

-- Why nothing is to be written beside the target: the file there is the target; or it is the input,
-- which opens.
abbrev pub IsBarredBeside : Disk → Operand → List ℕ → Option (Bor (List ℕ)) → Beside → Fate → Type 0
IsBarredBeside disk operand input target beside f =
    ((f ≡ OneFile Out beside.operand) × AreOne disk target beside.path)
    ⊎ ((f ≡ OneFile operand beside.operand) × IsTarget disk input beside.path
    × ((read : Reading) × disk.gives input read))

-- one of the files that are read beside the input is the target, or the file beside this
abbrev pub IsReadBeside : Disk → List Beside → Option (Bor (List ℕ)) → Beside → Fate → Type 0
IsReadBeside disk reads target beside f =
    (read : Beside) × Contains reads read
    × (((f ≡ OneFile read.operand Out) × AreOne disk read.path target)
    ⊎ ((f ≡ OneFile read.operand beside.operand) × AreOne disk read.path beside.path))

-- why the input is not read where these are read beside it, and a file is to be written beside the
-- target
abbrev pub IsBarredApart : Disk → Operand → List ℕ → List Beside → Option (Bor (List ℕ)) → Beside
    → Fate → Type 0
IsBarredApart disk operand input reads target beside f =
    IsBarred disk operand input target f ⊎ IsBarredBeside disk operand input target beside f
    ⊎ IsReadBeside disk reads target beside f

-- the list of what is left out, which is read beside a log
abbrev pub list_beside : Ignored → Beside
list_beside ignored =
    record { operand = if ignored.is_wide then Ignore else NotAtomic; path = ignored.known }

-- ---- nothing is done
