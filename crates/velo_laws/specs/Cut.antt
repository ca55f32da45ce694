-- A log that is cut where no block is open: what was before the cut, and what comes after it.
use Rattle.std.specs.Prelude.{◌≡◌, ℕ, ◌+◌, ◌<◌, List, ◌++◌, length, take, map, IsTrue, IsFalse, ◌↔◌, ◌⊎◌}
use Rattle.velo_events.specs.declared.event.Event.{Event}
use Rattle.velo_events.specs.Event.{is_by}
use Rattle.velo_events.specs.Heap.{depth_in}
use Rattle.velo_events.specs.Block.{passes_at, is_open_at}
use Rattle.velo_events.specs.Graph.{HasCycle, IsClosing}
use Rattle.velo_events.specs.Reordering.{AreBlamed}

-- no thread has an open block at the end
abbrev pub NoBlockOpen : List Event → Type 0
NoBlockOpen trace = (t : ℕ) → depth_in trace t ≡ 0

-- the same, of each position and thread: no block that begins there is open at the end
abbrev pub IsQuiet : List Event → Type 0
IsQuiet trace = (t b : ℕ) → IsFalse (is_open_at trace t b (length trace))

-- these blocks, each so many positions later
abbrev pub later_by : ℕ → List ℕ → List ℕ
later_by n blocks = map (λ b. n + b) blocks

-- The log is judged as its two sides are judged apart, each as a bare list of events; positions after the cut are counted from it
pub record IsJudgedApart (before after : List Event) : Type 0 where
  -- it has a cycle where one of the sides has
  pub cycles : HasCycle (before ++ after) ↔ (HasCycle before ⊎ HasCycle after)
  -- before the cut the same event closes the first cycle
  pub closes_before : (p : ℕ) → p < length before
      → IsClosing (before ++ after) p ↔ IsClosing before p
  -- after the cut too, if there was no cycle before
  pub closes_after : ¬ HasCycle before → (q : ℕ)
      → IsClosing (before ++ after) (length before + q) ↔ IsClosing after q
  -- and the same blocks are to blame at any event after the cut, by the thread of this event
  pub blame : (t q : ℕ) → IsTrue (passes_at after (is_by t) q) → (blamed : List ℕ)
      → AreBlamed (take (length before + q + 1) (before ++ after)) t blamed
      ↔ ((own : List ℕ) × (blamed ≡ later_by (length before) own) × AreBlamed (take (q + 1) after) t own)
