-- Accesses that repeat one of their thread.
use Rattle.std.specs.Prelude.{◌≡◌, ◌||◌, ℕ, ◌+◌, ◌<◌, Bool, not, List, length, map, filter, filter_map, slice_get, slice_index, take, IsTrue, IsFalse, ◌⊎◌}
use Rattle.velo_events.specs.declared.event.Event.{Event}
use Rattle.velo_events.specs.Event.{is_read, is_write, is_by, is_writing, is_reading}
use Rattle.velo_events.specs.Block.{passes_at, positions}
use Rattle.velo_events.specs.Graph.{conflict_at, IsClosing}
use Rattle.velo_events.specs.Reordering.{AreBlamed}

-- in one thread, position j writes the cell that position i writes, or reads the one that it reads
pub record IsAlike (log : List Event) (i j : ℕ) : Type 0 where
  pub thread : ℕ
  pub own_first : IsTrue (passes_at log (is_by thread) i)
  pub own : IsTrue (passes_at log (is_by thread) j)
  pub cell : ℕ
  pub same : (IsTrue (passes_at log (is_writing cell) i) × IsTrue (passes_at log (is_writing cell) j))
      ⊎ (IsTrue (passes_at log (is_reading cell) i) × IsTrue (passes_at log (is_reading cell) j))

-- it repeats an earlier one that stays, and whatever stands between the two and conflicts with it goes as well
pub record Repeats (goes : ℕ → Bool) (log : List Event) (j : ℕ) : Type 0 where
  pub first : ℕ
  pub in_order : first < j
  pub alike : IsAlike log first j
  pub first_stays : IsFalse (goes first)
  pub between : (k : ℕ) → first < k → k < j → IsTrue (conflict_at log k j) → IsTrue (goes k)

abbrev pub AreRepeats : (ℕ → Bool) → List Event → Type 0
AreRepeats goes log = (j : ℕ) → IsTrue (goes j) → Repeats goes log j

-- they are accesses to variables, each with the value of the one that it repeats
abbrev pub AreEqualAccesses : (goes : ℕ → Bool) (log : List Event) → AreRepeats goes log → Type 0
AreEqualAccesses goes log repeats =
    (j : ℕ) (g : IsTrue (goes j)) → (slice_get log (repeats j g).first ≡ slice_get log j)
    × IsTrue (passes_at log (λ e. is_read e.kind || is_write e.kind) j)

-- the log without these positions
abbrev pub without : (ℕ → Bool) → List Event → List Event
without goes log = filter_map (slice_get log) (filter (λ i. not (goes i)) (positions log))

-- where a position of the log stands then: how many stay before it
abbrev pub place_without : (ℕ → Bool) → List Event → ℕ → ℕ
place_without goes log i = length (without goes (take i log))

-- the position of the log for which position k stands then
abbrev pub place_with : (ℕ → Bool) → List Event → ℕ → ℕ
place_with goes log k = slice_index (filter (λ i. not (goes i)) (positions log)) k

-- the first closing event is none of these positions, and it is the first one without them
abbrev pub ClosesAtSameRepeated : (ℕ → Bool) → List Event → Type 0
ClosesAtSameRepeated goes log =
    (p : ℕ) → IsClosing log p
    → IsFalse (goes p) × IsClosing (without goes log) (place_without goes log p)

-- and where some blocks of a thread are to blame at one of its events that stays, they are so without these positions
abbrev pub BlamesSameRepeated : (ℕ → Bool) → List Event → Type 0
BlamesSameRepeated goes log =
    (p t : ℕ) (blamed : List ℕ) → IsFalse (goes p) → IsTrue (passes_at log (is_by t) p)
    → AreBlamed (take (p + 1) log) t blamed
    → AreBlamed (take (place_without goes log p + 1) (without goes log)) t (map (place_without goes log) blamed)
