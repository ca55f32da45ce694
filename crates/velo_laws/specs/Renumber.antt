-- The threads of a log under other numbers.
use Rattle.std.specs.Prelude.{◌≡◌, ℕ, ◌+◌, List, take, map, IsTrue, ◌↔◌}
use Rattle.velo_events.specs.declared.event.Event.{Event}
use Rattle.velo_events.specs.declared.event.Kind.{Kind}
use Rattle.velo_events.specs.declared.event.Kind.TheVariants.{Fork, Join}
use Rattle.velo_events.specs.Event.{is_by}
use Rattle.velo_events.specs.Block.{passes_at}
use Rattle.velo_events.specs.Graph.{HasCycle, IsClosing}
use Rattle.velo_events.specs.Reordering.{AreBlamed}

-- different threads get different numbers
abbrev pub KeepsApart : (ℕ → ℕ) → Type 0
KeepsApart number = (t u : ℕ) → number t ≡ number u → t ≡ u

abbrev pub renumbered_kind : (ℕ → ℕ) → Kind → Kind
renumbered_kind number (Fork u) = Fork (record { 0 = number u.0 })
renumbered_kind number (Join u) = Join (record { 0 = number u.0 })
renumbered_kind number k = k

abbrev pub renumbered_event : (ℕ → ℕ) → Event → Event
renumbered_event number e =
    record { thread = record { 0 = number e.thread.0 }; kind = renumbered_kind number e.kind }

abbrev pub renumbered : (ℕ → ℕ) → List Event → List Event
renumbered number trace = map (renumbered_event number) trace

-- the log is judged the same under the other numbers
pub record IsJudgedAlike (number : ℕ → ℕ) (trace : List Event) : Type 0 where
  pub cycles : HasCycle (renumbered number trace) ↔ HasCycle trace
  pub closes : (p : ℕ) → IsClosing (renumbered number trace) p ↔ IsClosing trace p
  pub blame : (t q : ℕ) → IsTrue (passes_at trace (is_by t) q) → (blamed : List ℕ)
      → AreBlamed (take (q + 1) (renumbered number trace)) (number t) blamed
      ↔ AreBlamed (take (q + 1) trace) t blamed
