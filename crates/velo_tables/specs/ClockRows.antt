-- Rows of numbers as the clocks keep them. Private contracts cite these words.
use Rattle.std.specs.Prelude.{◌≡◌, ℕ, Bool, false, ◌*◌, ◌<◌, ◌≤◌, ◌==◌, ◌&&◌, ◌||◌, max, List, [], ◌∷◌, Some, length, replicate, slice_index_or, if◌then◌else◌}
use Rattle.velo_events.specs.declared.event.Access.{Access}
use Rattle.velo_events.specs.Event.{are_same, cell_of, forked_of, is_exclusive, is_shared}
use Rattle.velo_tables.specs.declared.place_rows.PlaceRows.{PlaceRows}
use Rattle.velo_tables.specs.Clocks.{ClockPlace, OfLast, OfWrite, OfReads, PlaceNumbers, number_at, stays, row_of}

-- each number, or that of the other list, if this is greater
unfoldable pub maxima : List ℕ → List ℕ → List ℕ
maxima [] ys = []
maxima (x ∷ xs) [] = x ∷ xs
maxima (x ∷ xs) (y ∷ ys) = max x y ∷ maxima xs ys

-- the row, and no other, was written
pub record IsWritten (n : ℕ) (old : List ℕ) (row : ℕ) (list new : List ℕ) : Type 0 where
  pub here : row_of n new row ≡ list
  pub others : (i : ℕ) → ¬ (row ≡ i) → row_of n new i ≡ row_of n old i
  pub long : length new ≡ length old

-- ---- the places

abbrev pub numbers_of : PlaceRows → PlaceNumbers
numbers_of r = record { threads = r.threads.items; writes = r.writes.items; reads = r.reads.items }

-- what `is_noted` and `is_cleared` say, by the access
abbrev pub is_noted_by : ℕ → Access → ClockPlace → Bool
is_noted_by by a (OfLast t) = (by == t) || are_same (forked_of a) (Some t)
is_noted_by by a (OfWrite c) = is_exclusive a && are_same (cell_of a) (Some c)
is_noted_by by a (OfReads c) = is_shared a && are_same (cell_of a) (Some c)

abbrev pub is_cleared_by : Access → ClockPlace → Bool
is_cleared_by a (OfReads c) = is_exclusive a && are_same (cell_of a) (Some c)
is_cleared_by a _ = false

-- an access of a thread that knows so much was noted
pub record IsNotedBy (n : ℕ) (old : PlaceNumbers) (clock : List ℕ) (by : ℕ) (a : Access) (new : PlaceNumbers) : Type 0 where
  pub each : (p : ClockPlace) (u : ℕ) → number_at n new p u
      ≡ (if is_noted_by by a p then max (stays p (number_at n old p u)) (slice_index_or clock u 0) else (if is_cleared_by a p then 0 else number_at n old p u))
  pub threads : length new.threads ≡ length old.threads
  pub writes : length new.writes ≡ length old.writes
  pub reads : length new.reads ≡ length old.reads

-- no number is changed, and no row of a thread came or went
pub record KeepsNumbers (n : ℕ) (old new : PlaceNumbers) : Type 0 where
  pub each : (p : ClockPlace) (u : ℕ) → number_at n new p u ≡ number_at n old p u
  pub threads : new.threads ≡ old.threads

-- each of the n threads has its row
abbrev pub HasThreads : ℕ → PlaceNumbers → Type 0
HasThreads n s = n * n ≤ length s.threads

-- a clock, and a row of zeros, of n threads
pub record AreTables (n : ℕ) (zeros : List ℕ) (s r : PlaceRows) : Type 0 where
  pub some : 0 < n
  pub few : n ≤ 64
  pub blank : zeros ≡ replicate n 0
  pub known : HasThreads n (numbers_of s)
  pub by_others : HasThreads n (numbers_of r)
