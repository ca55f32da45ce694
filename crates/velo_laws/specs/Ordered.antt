-- Operations on locks and variables that are kept in order by conflicts of which one side stays.
use Rattle.std.specs.Prelude.{◌≡◌, ℕ, ◌+◌, ◌<◌, Bool, false, not, ◌||◌, List, length, map, take, Some, IsTrue, IsFalse, All, ◌⊎◌, ◌↔◌}
use Rattle.velo_events.specs.declared.event.Event.{Event}
use Rattle.velo_events.specs.Event.{is_by, is_begin, is_end, is_writing, is_reading}
use Rattle.velo_events.specs.Block.{passes_at, owner}
use Rattle.velo_events.specs.Graph.{Path, Leads, conflict_at, ConflictsInOrder, IsClosing}
use Rattle.velo_events.specs.Reordering.{AreBlamed}
use Rattle.velo_events.specs.Place.{LastWrite, LastRead, last_at}
use Rattle.velo_filter.specs.Left.{Omitted, is_left_out, rest_of, place_of}

-- the operations on these locks and variables are left out, and every block stays
abbrev pub only : (ℕ → Bool) → (ℕ → Bool) → Omitted
only locks variables = record { labels = λ l. false; locks = locks; variables = variables }

-- both positions are of one thread
abbrev pub AreOfOneThread : List Event → ℕ → ℕ → Type 0
AreOfOneThread log i j =
    (t : ℕ) × IsTrue (passes_at log (is_by t) i) × IsTrue (passes_at log (is_by t) j)

-- a conflict along rising positions, of which one side stays, or both are of one thread
pub record IsStep (omitted : Omitted) (log : List Event) (i j : ℕ) : Type 0 where
  pub in_order : i < j
  pub in_conflict : IsTrue (conflict_at log i j)
  pub side : IsFalse (is_left_out omitted log i)
      ⊎ (IsFalse (is_left_out omitted log j) ⊎ AreOfOneThread log i j)

-- A path of such steps joins every conflicting pair: only pairs of different threads that both are left out ask for one
abbrev pub IsOrdered : Omitted → List Event → Type 0
IsOrdered omitted log = (i j : ℕ) → ConflictsInOrder log i j → Leads (IsStep omitted log) i j

-- ---- what is the same in what is left

-- the first closing events stand for one another
abbrev pub ClosesAtSame : Omitted → List Event → Type 0
ClosesAtSame omitted log =
    (p : ℕ) → IsClosing log p
    ↔ ((k : ℕ) × IsClosing (rest_of omitted log) k × (place_of omitted log k ≡ p))

-- so do the first positions of the transactions
abbrev pub HasSameTransactions : Omitted → List Event → Type 0
HasSameTransactions omitted log =
    (k : ℕ) → k < length (rest_of omitted log)
    → place_of omitted log (owner (rest_of omitted log) k) ≡ owner log (place_of omitted log k)

-- and where some blocks of a thread are to blame at one of its events, those for which they stand are so in the log
abbrev pub BlamesSame : Omitted → List Event → Type 0
BlamesSame omitted log =
    (k t : ℕ) (blamed : List ℕ) → k < length (rest_of omitted log)
    → IsTrue (passes_at (rest_of omitted log) (is_by t) k)
    → AreBlamed (take (k + 1) (rest_of omitted log)) t blamed
    → AreBlamed (take (place_of omitted log k + 1) log) t (map (place_of omitted log) blamed)

-- ---- where the blocks of some labels are left out as well

-- these labels alone are left out
abbrev pub dissolving : (ℕ → Bool) → Omitted
dissolving labels = record { labels = labels; locks = λ m. false; variables = λ x. false }

-- and these labels with the operations on these locks and variables
abbrev pub leaving_out : (ℕ → Bool) → (ℕ → Bool) → (ℕ → Bool) → Omitted
leaving_out labels locks variables = record { labels = labels; locks = locks; variables = variables }

-- The first closing event of what is left without these labels is that of what is left without the operations as well: both
-- stand for one position of the log
abbrev pub ClosesAtSameWithout : (ℕ → Bool) → Omitted → List Event → Type 0
ClosesAtSameWithout labels omitted log =
    (p : ℕ) → IsClosing (rest_of (dissolving labels) log) p
    ↔ ((k : ℕ) × IsClosing (rest_of omitted log) k × (p < length (rest_of (dissolving labels) log))
    × (place_of omitted log k ≡ place_of (dissolving labels) log p))

-- neither begins a block nor ends one
abbrev pub IsInner : List Event → ℕ → Type 0
IsInner log i = IsTrue (passes_at log (λ e. not (is_begin e.kind || is_end e.kind)) i)

-- a step between two such positions
pub record IsInnerStep (omitted : Omitted) (log : List Event) (i j : ℕ) : Type 0 where
  pub step : IsStep omitted log i j
  pub from : IsInner log i
  pub to : IsInner log j

-- Two conflicting operations that are left out are joined by a path of such steps
abbrev pub IsOrderedWithin : Omitted → List Event → Type 0
IsOrderedWithin omitted log =
    (i j : ℕ) → ConflictsInOrder log i j → IsTrue (is_left_out omitted log i) → IsTrue (is_left_out omitted log j)
    → Leads (IsInnerStep omitted log) i j

-- as they are where, if they are of different threads, a chain of conflicts leads from one to the other over positions that
-- stay, of which none begins or ends a block
abbrev pub IsChained : Omitted → List Event → Type 0
IsChained omitted log =
    (i j : ℕ) → ConflictsInOrder log i j → IsTrue (is_left_out omitted log i) → IsTrue (is_left_out omitted log j)
    → ¬ AreOfOneThread log i j → (between : List ℕ) × (0 < length between)
    × All (λ k. IsFalse (is_left_out omitted log k) × IsInner log k) between × Path (ConflictsInOrder log) i between j

-- It is enough that the last write before each operation that is left out is so joined to it, and before each write the last
-- read of each thread: writes and reads of cells, as a lock's exclusive and shared operations are, too
pub record IsOrderedAtLast (omitted : Omitted) (log : List Event) : Type 0 where
  pub after_write : (j m c : ℕ) → IsTrue (is_left_out omitted log j)
      → IsTrue (passes_at log (λ e. is_writing c e || is_reading c e) j)
      → last_at (LastWrite c) (take j log) ≡ Some m → Leads (IsInnerStep omitted log) m j
  pub after_reads : (j m c u : ℕ) → IsTrue (is_left_out omitted log j)
      → IsTrue (passes_at log (is_writing c) j)
      → last_at (LastRead c u) (take j log) ≡ Some m → Leads (IsInnerStep omitted log) m j
