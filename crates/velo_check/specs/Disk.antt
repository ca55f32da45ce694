-- What is said of the files that a command finds.
use Rattle.std.specs.Prelude.{◌≡◌, ◌≢◌, ⊤, ℕ, List, Option, Some, None, codes}
use Rattle.std.specs.Borrow.{Bor}
use Rattle.velo_check.specs.Reading.{Reading, reading}
use Rattle.velo_check.specs.Writing.{Writing}

-- What an implementation of `Files` promises of each path at one time: a field holds of what may
-- happen there, and of everything where nothing is promised. The path `-` is that of standard
-- input. Of the system's own files nothing is promised (`untold`). So the bytes that a definition
-- says a file gives are those that the program was given: that they stand on the disk is not said.
pub record Disk : Type 1 where
  -- a source that opens there may be read in this way
  pub gives : List ℕ → Reading → Type 0
  -- an opening there to read may fail
  pub fails_to_read : List ℕ → Type 0
  -- an opening there to write may fail
  pub fails_to_write : List ℕ → Type 0
  -- a file that opens there to be written has these bytes, if they are known, and this count of
  -- failures
  pub empties : List ℕ → Option (List ℕ) → ℕ → Type 0
  -- the last call on the files closed the file there, and left it with these bytes and failures
  pub closed : List ℕ → Option (List ℕ) → ℕ → Type 0
  -- one file stands at both paths
  pub one : List ℕ → List ℕ → Type 0

-- nothing is promised
abbrev pub untold : Disk
untold = record {
  gives = λ path read. ⊤;
  fails_to_read = λ path. ⊤;
  fails_to_write = λ path. ⊤;
  empties = λ path bytes failures. ⊤;
  closed = λ path bytes failures. ⊤;
  one = λ input target. ⊤;
}

-- What a command found and what it left: the disk before it; how it left the file that it closed;
-- and that the files are as they were, so that none was opened to be written. Between the state of
-- the files that it found and the one that it left they may be in others: of each the disk says
-- something.
pub record Store : Type 1 where
  pub disk : Disk
  pub closed : List ℕ → Option (List ℕ) → ℕ → Type 0
  pub is_kept : Type 0
  pub State : Type 0
  pub said : State → Disk
  pub found : State
  pub left : State

abbrev pub store : {F : Type 0} → (F → Disk) → F → F → Store
store {F = F} disk old new =
    record {
      disk = disk old;
      closed = (disk new).closed;
      is_kept = new ≡ old;
      State = F;
      said = disk;
      found = old;
      left = new;
    }

-- what was done up to a state, and what was done after it
abbrev pub up_to : (store : Store) → store.State → Store
up_to whole between = store whole.said whole.found between

abbrev pub behind : (store : Store) → store.State → Store
behind whole between = store whole.said between whole.left

-- ---- a file that is read

-- no file opens at the path to be read
abbrev pub FailsToOpen : Disk → List ℕ → Type 0
FailsToOpen disk path = (path ≢ codes "-") × disk.fails_to_read path

-- The source was opened at the path: it is read there from this state to the one in which its
-- reading ends, whichever that is.
abbrev pub IsOpened : {S : Type 0} → Disk → List ℕ → (S → Option (List ℕ)) → (S → ℕ) → S → Type 0
IsOpened {S = S} disk path remaining failures opened =
    (end : S) → disk.gives path (reading remaining failures opened end)

-- the target, if there is one, is the file of the input
abbrev pub IsTarget : Disk → List ℕ → Option (Bor (List ℕ)) → Type 0
IsTarget disk input None = ⊥
IsTarget disk input (Some target) = disk.one input target.now

-- two files, if there are both, are one
abbrev pub AreOne : Disk → Option (Bor (List ℕ)) → Option (Bor (List ℕ)) → Type 0
AreOne disk None target = ⊥
AreOne disk (Some path) None = ⊥
AreOne disk (Some path) (Some target) = disk.one path.now target.now

-- ---- a file that is written

-- A file was opened at the path to be written, written so, and closed; and nothing was done to the
-- files after this. What it has when it opens, if this is known, the disk says (`empties`). Of what
-- stands at other paths this says nothing.
abbrev pub IsWritten : Store → List ℕ → Writing → Type 0
IsWritten store path file =
    store.disk.empties path file.old file.failures_before × store.closed path file.new file.failures_after
