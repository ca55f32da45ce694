-- A file that means a value, or has a fault: of names, of labels, of sites, of a report, of a schedule,
-- a workload.
use Rattle.std.specs.Prelude.{◌≡◌, ◌⊎◌, ⊤, ℕ, List, Option}
use Rattle.velo_check.specs.Disk.{Disk, FailsToOpen}
use Rattle.velo_check.specs.Reading.{IsReadOf, Reading}
use Rattle.velo_events.specs.Refusals.{GrowthRefused}
use Rattle.velo_check.specs.declared.fate.Fate.{Fate}
use Rattle.velo_check.specs.declared.fate.Fate.TheVariants.{CannotOpen, Memory, ReadFailed}
use Rattle.velo_check.specs.Failures.{FailuresAsTold}

-- A format is a kind of file, that of names, say: `says` is which value the bytes of such a file
-- mean, and `lacks` how the command ends where they mean none. Bytes that are not known may mean any
-- value, and may have any fault that such a file can have: so both hold of them, and nothing is
-- claimed.
pub record Format (X : Type 0) : Type 1 where
  pub says : Option (List ℕ) → X → Type 0
  pub lacks : Option (List ℕ) → Fate → Type 0

-- Why there is no value: by the format, or the source failed, or an allocation failed. That the
-- source failed is in `FailuresAsTold`.
abbrev pub SaysNone : {X : Type 0} → Format X → Option (List ℕ) → Fate → Type 0
SaysNone format bytes ReadFailed = ⊤
SaysNone format bytes Memory = GrowthRefused
SaysNone format bytes f = format.lacks bytes f

-- ---- by its path

-- the value that was read at the path
pub record Reads {X : Type 0} (format : Format X) (disk : Disk) (path : List ℕ) (x : X)
    : Type 0 where
  pub read : Reading
  pub given : disk.gives path read
  pub said : format.says read.bytes x
  pub no_failure : read.failures_after ≡ read.failures_before

-- why none was
pub record ReadsNone {X : Type 0} (format : Format X) (disk : Disk) (path : List ℕ) (f : Fate)
    : Type 0 where
  pub read : Reading
  pub given : disk.gives path read
  pub unsaid : SaysNone format read.bytes f
  pub failures : FailuresAsTold read f

-- the file does not open, or by what it gives
abbrev pub LacksAt : {X : Type 0} → Format X → Disk → List ℕ → Fate → Type 0
LacksAt format disk path f =
    ((f ≡ CannotOpen) × FailsToOpen disk path) ⊎ ReadsNone format disk path f

-- ---- the plainest

-- its bytes; or if there are more than the most that are wanted, more than that many of them
abbrev pub bytes_up_to : ℕ → Format (List ℕ)
bytes_up_to most = record { says = IsReadOf most; lacks = λ bytes f. ⊥ }
