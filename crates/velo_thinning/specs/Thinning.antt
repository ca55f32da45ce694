-- A log without what adds nothing.
use Rattle.std.specs.Prelude.{◌≡◌, ℕ, ◌+◌, ◌<◌, ◌≤◌, All, Bool, List, length, map, take, slice_index, IsTrue, ◌↔◌}
use Rattle.velo_events.specs.declared.config.Bounds.{Bounds}
use Rattle.velo_events.specs.declared.event.Event.{Event}
use Rattle.velo_events.specs.Event.{is_by}
use Rattle.velo_events.specs.Block.{passes_at}
use Rattle.velo_events.specs.Graph.{HasCycle, IsClosing}
use Rattle.velo_events.specs.Reordering.{AreBlamed}
use Rattle.velo_events.specs.WellFormed.{IsWellFormed}
use Rattle.velo_filter.specs.Left.{Omitted, rest_of, place_of}
use Rattle.velo_filter.specs.declared.thinned.Thinned.{Thinned}
use Rattle.velo_laws.specs.Ordered.{only}
use Rattle.velo_laws.specs.Repeats.{without, place_with}
use Rattle.velo_laws.specs.Judged.{IsJudgedBy}
use Rattle.velo_thinning.specs.Races.{no_lock, IsFreeOfRaces}
use Rattle.velo_thinning.specs.Repeating.{AreExactly}

-- the log without the accesses to these variables
abbrev pub without_variables : (ℕ → Bool) → List Event → List Event
without_variables variables log = rest_of (only no_lock variables) log

-- the position of the log for which position k stands, where then these positions go as well
abbrev pub place_in : (ℕ → Bool) → (ℕ → Bool) → List Event → ℕ → ℕ
place_in variables goes log k =
    place_of (only no_lock variables) log (place_with goes (without_variables variables log) k)

-- With every block there, the events have a cycle exactly where the log has one, the same event closes the first one, and the
-- blocks to blame at one of the events begin at the positions of the log for which theirs stand
pub record IsJudgedAtOnce (log events : List Event) (place : ℕ → ℕ) : Type 0 where
  pub cycles : HasCycle log ↔ HasCycle events
  pub closes : (p : ℕ) → IsClosing log p → (k : ℕ) × IsClosing events k × (place k ≡ p)
  pub blame : (k t : ℕ) (blamed : List ℕ) → IsTrue (passes_at events (is_by t) k)
      → AreBlamed (take (k + 1) events) t blamed
      → AreBlamed (take (place k + 1) log) t (map place blamed)

-- First the accesses to some variables went, among them those to each that is free of races; then just the accesses that repeat
-- one just before them. What is left can come about, and the log is judged by it, at once and whichever labels are left out
pub record IsThinnedLog (bounds : Bounds) (log : List Event) (thinned : Thinned) : Type 0 where
  pub variables : ℕ → Bool
  pub free : (x : ℕ) → x < bounds.variables → IsFreeOfRaces log x → IsTrue (variables x)
  pub goes : ℕ → Bool
  pub exact : AreExactly goes (without_variables variables log)
  pub events : thinned.trace.events ≡ without goes (without_variables variables log)
  pub fewer : length thinned.trace.events ≤ length log
  pub count : length thinned.places.items ≡ length thinned.trace.events
  pub places : (k : ℕ) → k < length thinned.trace.events
      → slice_index thinned.places.items k ≡ place_in variables goes log k
  pub within : All (λ place. place < length log) thinned.places.items
  pub well_formed : IsWellFormed bounds thinned.trace.events
  pub judged_at_once : IsJudgedAtOnce log thinned.trace.events (place_in variables goes log)
  pub judged : (labels : ℕ → Bool) → IsJudgedBy labels log thinned.trace.events (place_in variables goes log)

-- First went what was asked to be left out, and the rest was thinned. Each position is that of its event in the whole log
pub record IsThinnedRest (bounds : Bounds) (omitted : Omitted) (log : List Event) (thinned : Thinned) : Type 0 where
  pub rest : Thinned
  pub is_thinned : IsThinnedLog bounds (rest_of omitted log) rest
  pub events : thinned.trace.events ≡ rest.trace.events
  pub places : thinned.places.items ≡ map (place_of omitted log) rest.places.items
  pub fewer : length thinned.trace.events ≤ length log
