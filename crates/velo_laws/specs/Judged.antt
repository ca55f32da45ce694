-- A log that is judged by some of its events, whichever labels are left out of both.
use Rattle.std.specs.Prelude.{◌≡◌, ℕ, ◌+◌, ◌<◌, Bool, List, length, map, take, IsTrue, ◌↔◌}
use Rattle.velo_events.specs.declared.event.Event.{Event}
use Rattle.velo_events.specs.Event.{is_by}
use Rattle.velo_events.specs.Block.{passes_at}
use Rattle.velo_events.specs.Graph.{HasCycle, IsClosing}
use Rattle.velo_events.specs.Reordering.{AreBlamed}
use Rattle.velo_filter.specs.Left.{rest_of, place_of}
use Rattle.velo_laws.specs.Ordered.{dissolving}

-- the events without the blocks of the labels, and the position of each among them all
abbrev pub without_labels : (ℕ → Bool) → List Event → List Event
without_labels labels log = rest_of (dissolving labels) log

abbrev pub position : (ℕ → Bool) → List Event → ℕ → ℕ
position labels log k = place_of (dissolving labels) log k

-- Where some blocks of a thread are to blame at its event at position k, the same blocks are so at the same event of the log:
-- each begins at the position of the log for which it stands
pub record IsBlamedInLog (labels : ℕ → Bool) (log events : List Event) (place : ℕ → ℕ) (k t : ℕ) (blamed : List ℕ) : Type 0 where
  pub at : ℕ
  pub own : IsTrue (passes_at (without_labels labels log) (is_by t) at)
  pub same_event : position labels log at ≡ place (position labels events k)
  pub in_log : List ℕ
  pub are_blamed : AreBlamed (take (at + 1) (without_labels labels log)) t in_log
  pub same_blocks : map (position labels log) in_log ≡ map (λ b. place (position labels events b)) blamed

-- The log is judged by the events, of which that at position k stands for the one at position (place k) of the log: without the
-- blocks of the labels it has a cycle exactly where they have one, the same event closes the first one, and the same blocks are
-- to blame
pub record IsJudgedBy (labels : ℕ → Bool) (log events : List Event) (place : ℕ → ℕ) : Type 0 where
  pub cycles : HasCycle (without_labels labels log) ↔ HasCycle (without_labels labels events)
  pub closes : (p : ℕ) → IsClosing (without_labels labels log) p
      → (k : ℕ) × IsClosing (without_labels labels events) k
      × (place (position labels events k) ≡ position labels log p)
  pub blame : (k t : ℕ) (blamed : List ℕ) → IsTrue (passes_at (without_labels labels events) (is_by t) k)
      → AreBlamed (take (k + 1) (without_labels labels events)) t blamed
      → IsBlamedInLog labels log events place k t blamed
