-- What is free by the operations that each thread does one after another, whatever values it reads and writes.
use Rattle.std.specs.Prelude.{◌≡◌, ℕ, ◌≤◌, Bool, false, not, ◌&&◌, ◌||◌, ◌==◌, nat_le, List, [], ◌∷◌, ◌++◌, length, take, Option, Some, slice_get}
use Rattle.std.specs.Option.{option_map_or}
use Rattle.velo_events.specs.declared.event.Action.{Action}
use Rattle.velo_events.specs.declared.event.Event.{Event}
use Rattle.velo_events.specs.declared.event.Kind.{Kind}
use Rattle.velo_events.specs.declared.event.Kind.TheVariants.{Read, Write, Acquire, Release, AcquireShared, ReleaseShared, Begin, End, Fork, Join, Exit}
use Rattle.velo_events.specs.Event.{thread_of}
use Rattle.velo_events.specs.Meaning.{action_of}
use Rattle.velo_events.specs.Block.{any_below}
use Rattle.velo_movers.specs.Free.{are_rivals, are_twins}
use Rattle.velo_movers.specs.Wants.{Does}

-- the operation that an action asks for, without values
abbrev pub plain : Action → Kind
plain (Action.Read x) = Read x 0
plain (Action.Write x v) = Write x 0
plain (Action.Acquire m) = Acquire m
plain (Action.Release m) = Release m
plain (Action.AcquireShared m) = AcquireShared m
plain (Action.ReleaseShared m) = ReleaseShared m
plain (Action.Begin l) = Begin l
plain Action.End = End
plain (Action.Fork u) = Fork u
plain (Action.Join u) = Join u
plain Action.Exit = Exit

abbrev pub plain_kind : Kind → Kind
plain_kind k = plain (action_of k)

-- Each thread's operations in their order, without values: what it may have done is the first of them
pub record AreScripts (May : ℕ → List Event → Type 0) (threads : ℕ) (script : ℕ → List Kind) : Type 0 where
  pub by : (t : ℕ) (events : List Event) → May t events → (i : ℕ) (e : Event) → slice_get events i ≡ Some e → thread_of e ≡ t
  pub next : (t : ℕ) (events : List Event) (e : Event) → May t (events ++ e ∷ []) → slice_get (script t) (length events) ≡ Some (plain_kind e.kind)
  pub others : (t : ℕ) → threads ≤ t → script t ≡ []

-- The same of threads that want one action after another
pub record HaveScripts (wants : ℕ → List Event → Option Action) (threads : ℕ) (script : ℕ → List Kind) : Type 0 where
  pub next : (t : ℕ) (events : List Event) (action : Action) → Does wants t events → wants t events ≡ Some action → slice_get (script t) (length events) ≡ Some (plain action)
  pub others : (t : ℕ) → threads ≤ t → script t ≡ []

-- whether lock m is had alone after an operation, if it was had so before it or not
abbrev pub has_after : ℕ → Bool → Kind → Bool
has_after m had (Acquire n) = (n.0 == m) || had
has_after m had (Release n) = not (n.0 == m) && had
has_after m had _ = had

unfoldable pub has_from : ℕ → Bool → List Kind → Bool
has_from m had [] = had
has_from m had (k ∷ ks) = has_from m (has_after m had k) ks

-- the same of a share of it
abbrev pub shares_after : ℕ → Bool → Kind → Bool
shares_after m had (AcquireShared n) = (n.0 == m) || had
shares_after m had (ReleaseShared n) = not (n.0 == m) && had
shares_after m had _ = had

unfoldable pub shares_from : ℕ → Bool → List Kind → Bool
shares_from m had [] = had
shares_from m had (k ∷ ks) = shares_from m (shares_after m had k) ks

-- after the operations lock m is had alone, or a share of it
abbrev pub has_lock : ℕ → List Kind → Bool
has_lock m ks = has_from m false ks

abbrev pub shares_lock : ℕ → List Kind → Bool
shares_lock m ks = shares_from m false ks

-- after both, two threads would have lock m, and one of them alone
abbrev pub exclude : ℕ → List Kind → List Kind → Bool
exclude m mine theirs = (has_lock m mine && (has_lock m theirs || shares_lock m theirs)) || (shares_lock m mine && has_lock m theirs)

-- the second operation hinders the first: it is a rival and no lock keeps the threads apart, or it is a twin
abbrev pub hinders : ℕ → List Kind → Kind → List Kind → Kind → Bool
hinders locks mine k theirs l = (are_rivals k l && not (any_below locks (λ m. exclude m mine theirs))) || are_twins k l

-- No operation that another thread still has to do hinders the next one of thread t. Each thread has done so many
unfoldable pub is_free : ℕ → ℕ → (ℕ → List Kind) → (ℕ → ℕ) → ℕ → Kind → Bool
is_free threads locks script done t k = not (any_below threads (λ u. not (u == t) && any_below (length (script u)) (λ j.
    nat_le (done u) j && option_map_or (hinders locks (take (done t) (script t)) k (take j (script u))) (slice_get (script u) j) false)))
