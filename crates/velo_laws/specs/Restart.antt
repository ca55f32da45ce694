-- A run that goes on behind a cut as a log of its own: a prologue stands for all that was before.
use Rattle.std.specs.Prelude.{◌≡◌, ◌||◌, ℕ, ◌+◌, ◌*◌, ◌≤◌, Bool, List, ◌++◌, length, take, IsTrue, IsFalse, ◌↔◌}
use Rattle.velo_events.specs.declared.config.Bounds.{Bounds}
use Rattle.velo_events.specs.declared.event.Event.{Event}
use Rattle.velo_events.specs.WellFormed.{IsWellFormed}
use Rattle.velo_events.specs.Event.{is_by, is_fork_of, is_join_of}
use Rattle.velo_events.specs.Heap.{value_in, holder_in, shares_in, status_in}
use Rattle.velo_events.specs.Meaning.{is_joined}
use Rattle.velo_events.specs.Block.{is_begin_at, passes_at}
use Rattle.velo_events.specs.Graph.{HasCycle, IsClosing}
use Rattle.velo_events.specs.Reordering.{AreBlamed}
use Rattle.velo_laws.specs.Cut.{later_by}

-- no block begins in it
abbrev pub HasNoBegin : List Event → Type 0
HasNoBegin trace = (i : ℕ) → IsFalse (is_begin_at trace i)

-- It leaves the values, holders and sharers that are there before, and each thread as it was, but for those that were joined:
-- of them it need not know, and their numbers may be given anew
pub record StandsFor (prologue before : List Event) : Type 0 where
  pub values : (x : ℕ) → value_in prologue x ≡ value_in before x
  pub holders : (m : ℕ) → holder_in prologue m ≡ holder_in before m
  pub sharers : (m t : ℕ) → shares_in prologue m t ≡ shares_in before m t
  pub threads : (t : ℕ) → IsFalse (is_joined (status_in before t))
      → status_in prologue t ≡ status_in before t

-- the event is of the thread, or forks or joins it
abbrev pub is_about : ℕ → Event → Bool
is_about t e = is_by t e || (is_fork_of t e || is_join_of t e)

-- no event after is about a thread that was joined before
abbrev pub IsAboutNoJoined : List Event → List Event → Type 0
IsAboutNoJoined before after =
    (t i : ℕ) → IsTrue (passes_at after (is_about t) i) → IsFalse (is_joined (status_in before t))

-- What comes after is judged the same after both; positions are counted from where it begins
pub record IsJudgedTheSame (before prologue after : List Event) : Type 0 where
  pub cycles : HasCycle (before ++ after) ↔ HasCycle (prologue ++ after)
  pub closes : (q : ℕ) → IsClosing (before ++ after) (length before + q)
      ↔ IsClosing (prologue ++ after) (length prologue + q)
  pub blame : (t q : ℕ) → IsTrue (passes_at after (is_by t) q) → (own : List ℕ)
      → AreBlamed (take (length before + q + 1) (before ++ after)) t (later_by (length before) own)
      ↔ AreBlamed (take (length prologue + q + 1) (prologue ++ after)) t (later_by (length prologue) own)

-- A prologue in which no block begins stands for what was before. It can come about, and is no longer than the bounds say
pub record IsPrologueOf (bounds : Bounds) (before prologue : List Event) : Type 0 where
  pub well_formed : IsWellFormed bounds prologue
  pub no_begin : HasNoBegin prologue
  pub stands : StandsFor prologue before
  pub short : length prologue
      ≤ bounds.threads + bounds.variables + bounds.locks + bounds.locks * bounds.threads + bounds.threads

-- Whatever may come after all that was before may come after the prologue, and is judged the same. Nothing else may come after
-- it, but for what is about threads that were joined
pub record GoesOnAfresh (bounds : Bounds) (before prologue after : List Event) : Type 0 where
  pub well_formed : IsWellFormed bounds (before ++ after) → IsWellFormed bounds (prologue ++ after)
  pub only : IsAboutNoJoined before after → IsWellFormed bounds (prologue ++ after) → IsWellFormed bounds (before ++ after)
  pub judged : IsJudgedTheSame before prologue after
