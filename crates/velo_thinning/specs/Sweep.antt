-- What is kept of the events before a position. Private contracts cite these words.
use Rattle.std.specs.Prelude.{◌≡◌, ◌≢◌, ℕ, ◌+◌, ◌*◌, ◌<◌, ◌≤◌, Bool, ◌||◌, ◌==◌, nat_le, if◌then◌else◌, List, length, filter, take, Option, Some, None, slice_index_or, IsTrue, IsFalse}
use Rattle.velo_events.specs.declared.event.Event.{Event}
use Rattle.velo_events.specs.Event.{is_by, is_writing}
use Rattle.velo_events.specs.Block.{passes_at}
use Rattle.velo_events.specs.Graph.{Leads}
use Rattle.velo_events.specs.Place.{LastWrite, LastRead, last_at}
use Rattle.velo_tables.specs.Clocks.{ClockState, OfLast, known_at, AreClocksOf, IsNoted, KnowsTheSame}
use Rattle.velo_laws.specs.Ordered.{only, IsInnerStep}
use Rattle.velo_filter.specs.Left.{Omitted, with_variable}
use Rattle.velo_filter.specs.Tables.{marked}
use Rattle.velo_thinning.specs.Races.{synchronizes, is_access_to, IsFreeOfRaces, no_lock}
use Rattle.velo_thinning.specs.declared.sweep.Sweep.{Sweep}
use Rattle.velo_thinning.specs.declared.sweep.LastWrite as written

-- the events that synchronize
abbrev pub synchronizing : List Event → List Event
synchronizing log = filter synchronizes log

-- the stamp of an access: how many of them come before it, plus one
abbrev pub stamp_at : List Event → ℕ → ℕ
stamp_at log m = length (synchronizing (take m log)) + 1

-- no access has the stamp 0
abbrev pub stamp_of : List Event → Option ℕ → ℕ
stamp_of log (Some m) = stamp_at log m
stamp_of log None = 0

-- thread t is that of an access with this stamp, or knows an event that its thread did after it
abbrev pub is_known : ClockState → ℕ → ℕ → ℕ → Bool
is_known s t by stamp = (by == t) || nat_le stamp (known_at s (OfLast t) by)

abbrev pub no_write : written.LastWrite
no_write = record { by = record { 0 = 0 }; stamp = 0 }

abbrev pub last_write : Sweep → ℕ → written.LastWrite
last_write s x = slice_index_or s.writes.items x no_write

-- thread t knows the last write of the variable
abbrev pub KnowsWrite : Sweep → ℕ → ℕ → Type 0
KnowsWrite s t x = IsTrue (is_known s.clocks t (last_write s x).by.0 (last_write s x).stamp)

-- it knows each thread's last read of it
abbrev pub KnowsReads : Sweep → ℕ → ℕ → Type 0
KnowsReads s t x =
    (u : ℕ) → u < s.bounds.threads → IsTrue (is_known s.clocks t u (slice_index_or s.reads.items (x * 64 + u) 0))

-- the marks are as before, but that of the variable stays only where its accesses are known
pub record IsJudged (old new : List Bool) (x : ℕ) (knows : Type 0) : Type 0 where
  pub count : length new ≡ length old
  pub others : (y : ℕ) → y ≢ x → marked new y ≡ marked old y
  pub marked_still : IsTrue (marked new x) → IsTrue (marked old x) × knows
  pub known_still : IsTrue (marked old x) → knows → IsTrue (marked new x)

-- whichever variables are left out, steps between inner positions lead from i to j
abbrev pub IsJoined : List Event → ℕ → ℕ → Type 0
IsJoined log i j = (variables : ℕ → Bool) → Leads (IsInnerStep (only no_lock variables) log) i j

-- such steps lead to each access before position n from the last write before it, and to a write from the last reads
pub record IsInOrderUpTo (log : List Event) (n x : ℕ) : Type 0 where
  pub after_write : (j m : ℕ) → j < n → IsTrue (passes_at log (is_access_to x) j)
      → last_at (LastWrite (x + x)) (take j log) ≡ Some m → IsJoined log m j
  pub after_reads : (j m u : ℕ) → j < n → IsTrue (passes_at log (is_writing (x + x)) j)
      → last_at (LastRead (x + x) u) (take j log) ≡ Some m → IsJoined log m j

-- the last write of the variable before position n has this stamp and thread
pub record IsLastWrite (log : List Event) (n x : ℕ) (last : written.LastWrite) : Type 0 where
  pub stamp : last.stamp ≡ stamp_of log (last_at (LastWrite (x + x)) (take n log))
  pub by : (m : ℕ) → last_at (LastWrite (x + x)) (take n log) ≡ Some m
      → IsTrue (passes_at log (is_by last.by.0) m)

-- this is kept of the events before position n
pub record IsSwept (log : List Event) (n : ℕ) (s : Sweep) : Type 0 where
  pub threads : s.clocks.count ≡ s.bounds.threads
  pub few : s.bounds.threads ≤ 64
  pub clocks : AreClocksOf s.clocks (synchronizing (take n log))
  pub count : s.count ≡ length (synchronizing (take n log))
  pub write_count : length s.writes.items ≡ s.bounds.variables
  pub read_count : length s.reads.items ≡ s.bounds.variables * 64
  pub ordered_count : length s.ordered.items ≡ s.bounds.variables
  pub writes : (x : ℕ) → x < s.bounds.variables → IsLastWrite log n x (last_write s x)
  pub reads : (x u : ℕ) → x < s.bounds.variables → u < s.bounds.threads
      → slice_index_or s.reads.items (x * 64 + u) 0 ≡ stamp_of log (last_at (LastRead (x + x) u) (take n log))
  pub ordered : (x : ℕ) → IsTrue (marked s.ordered.items x) → IsInOrderUpTo log n x
  pub racing : (x : ℕ) → x < s.bounds.variables → IsFalse (marked s.ordered.items x) → ¬ IsFreeOfRaces log x

-- the event was noted, after room was made for it
pub record IsNotedAfterRoom (old : ClockState) (position : ℕ) (e : Event) (new : ClockState) : Type 0 where
  pub between : ClockState
  pub same : KnowsTheSame old between
  pub noted : IsNoted between position e new
  pub threads : new.count ≡ old.count

-- ---- what is left out

-- the variable is left out too, if it is marked
abbrev pub with_marked : List Bool → ℕ → Omitted → Omitted
with_marked marks x omitted = if marked marks x then with_variable omitted x else omitted
