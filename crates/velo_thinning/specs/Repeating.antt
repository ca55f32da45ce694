-- Accesses that do again what their thread just did.
use Rattle.std.specs.Prelude.{◌≡◌, ℕ, ◌<◌, Bool, not, ◌||◌, List, filter, slice_get, IsTrue, IsFalse, ◌↔◌}
use Rattle.velo_events.specs.declared.event.Event.{Event}
use Rattle.velo_events.specs.Event.{is_read, is_write}
use Rattle.velo_events.specs.Block.{passes_at, positions}
use Rattle.velo_events.specs.Graph.{conflict_at}
use Rattle.velo_filter.specs.declared.thinned.Thinned.{Thinned}
use Rattle.velo_laws.specs.Repeats.{AreRepeats, AreEqualAccesses, without}

-- Position j does again what position i does: a thread reads or writes a variable, with the same value, and nothing between the
-- two conflicts with it. So no event of the thread is between them
pub record RepeatsAt (log : List Event) (i j : ℕ) : Type 0 where
  pub in_order : i < j
  pub again : slice_get log i ≡ slice_get log j
  pub access : IsTrue (passes_at log (λ e. is_read e.kind || is_write e.kind) j)
  pub between : (k : ℕ) → i < k → k < j → IsFalse (conflict_at log k j)

abbrev pub IsRepeat : List Event → ℕ → Type 0
IsRepeat log j = (i : ℕ) × RepeatsAt log i j

-- just these positions repeat one
abbrev pub AreExactly : (ℕ → Bool) → List Event → Type 0
AreExactly goes log = (j : ℕ) → IsTrue (goes j) ↔ IsRepeat log j

-- what is left without them, with the position of each event in the log
pub record IsWithoutRepeats (log : List Event) (left : Thinned) : Type 0 where
  pub goes : ℕ → Bool
  pub exact : AreExactly goes log
  pub repeats : AreRepeats goes log
  pub equal : AreEqualAccesses goes log repeats
  pub events : left.trace.events ≡ without goes log
  pub places : left.places.items ≡ filter (λ i. not (goes i)) (positions log)
