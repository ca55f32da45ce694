-- Whom a wanted thing leads to, and when a chain of waits comes back.
use Rattle.std.specs.Prelude.{◌≡◌, ◌⊎◌, ℕ, Bool, true, false, List, [], ◌∷◌, Option, Some, None, IsTrue, IsFalse, slice_get}
use Rattle.velo_events.specs.declared.event.Event.{Event}
use Rattle.velo_events.specs.declared.event.ThreadId.{ThreadId}
use Rattle.velo_events.specs.declared.event.Status.{Status}
use Rattle.velo_events.specs.declared.event.Status.TheVariants.{Unborn, Live, Exited, Joined}
use Rattle.velo_events.specs.Heap.{holder_in, shares_in, status_in}
use Rattle.velo_runtime.specs.declared.wait.Wanted.{Wanted}
use Rattle.velo_runtime.specs.declared.wait.Wanted.TheVariants.{Lock, LockShared, Thread}
use Rattle.velo_runtime.specs.Rooms.{RoomState}

-- From what is wanted, a chain leads to the caller: the wanted thing leads to a thread, this waits
-- for a thing, and so on. `leads w t`: what is wanted, w, is given up by thread t, perhaps among
-- others. `waits t`: what t waits for, if it waits.
abbrev pub ChainToCaller : {W : Type 0} → (W → ℕ → Type 0) → (ℕ → Option W) → ℕ → W → List ℕ → Type 0
ChainToCaller leads waits caller wanted [] = leads wanted caller
ChainToCaller {W} leads waits caller wanted (t ∷ ts) =
    leads wanted t × ((next : W) × (waits t ≡ Some next) × ChainToCaller leads waits caller next ts)

-- Some chain does. Who cites this says what a wanted thing leads to: a lock to each thread that
-- keeps it from being had so, and a thread to itself unless it has exited
pub record ComesBack {W : Type 0} (leads : W → ℕ → Type 0) (waits : ℕ → Option W) (caller : ℕ) (wanted : W) : Type 0 where
  pub threads : List ℕ
  pub chain : ChainToCaller leads waits caller wanted threads

-- it acts no more
abbrev pub has_exited : Status → Bool
has_exited Unborn = false
has_exited Live = false
has_exited Exited = true
has_exited Joined = true

-- a lock that is wanted alone leads to the thread that holds it alone and to each that shares it,
-- one that is wanted shared to the first of these only, and a wanted thread to itself unless it has
-- exited
abbrev pub Leads : List Event → Wanted → ℕ → Type 0
Leads log (Lock m) t = (holder_in log m.0 ≡ Some t) ⊎ IsTrue (shares_in log m.0 t)
Leads log (LockShared m) t = holder_in log m.0 ≡ Some t
Leads log (Thread u) t = (t ≡ u.0) × IsFalse (has_exited (status_in log u.0))

-- what is at a place, if the place is there
abbrev pub stands_at : Option (Option Wanted) → Option Wanted
stands_at None = None
stands_at (Some wait) = wait

-- what a thread waits for
abbrev pub wait_of : List (Option Wanted) → ℕ → Option Wanted
wait_of waits t = stands_at (slice_get waits t)

-- some chain of waits leads from what is wanted to the caller
abbrev pub ComesBackIn : RoomState → ThreadId → Wanted → Type 0
ComesBackIn room caller wanted = ComesBack (Leads room.world.log) (wait_of room.waits) caller.0 wanted
