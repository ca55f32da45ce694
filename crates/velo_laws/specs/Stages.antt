-- How far a prologue has come. Private contracts cite these words.
use Rattle.std.specs.Prelude.{◌≡◌, ℕ, ◌+◌, ◌==◌, Bool, true, false, if◌then◌else◌, nat_lt, List, length, Option, None, IsFalse}
use Rattle.velo_events.specs.declared.config.Bounds.{Bounds}
use Rattle.velo_events.specs.declared.event.Event.{Event}
use Rattle.velo_events.specs.declared.event.Status.{Status}
use Rattle.velo_events.specs.declared.event.Status.TheVariants.{Live, Exited}
use Rattle.velo_events.specs.Event.{is_fork_of, is_join_of, is_exit_by}
use Rattle.velo_events.specs.Heap.{happened, value_in, holder_in, shares_in}
use Rattle.velo_events.specs.WellFormed.{IsWellFormed}
use Rattle.velo_laws.specs.Restart.{HasNoBegin}
use Rattle.velo_laws.specs.Length.{counted, summed, forks, exits, has_value, is_held, sharers_of}

-- The events can come about, no block begins in them and nobody is joined. They leave these threads forked and exited, and these
-- holders, sharers and values. They are so many
pub record Leaves (bounds : Bounds) (made : List Event) (forked exited : ℕ → Bool) (holder : ℕ → Option ℕ) (sharing : ℕ → ℕ → Bool) (value : ℕ → ℕ) (count : ℕ) : Type 0 where
  pub well : IsWellFormed bounds made
  pub no_begin : HasNoBegin made
  pub forked_are : (t : ℕ) → happened (is_fork_of t) made ≡ forked t
  pub exited_are : (t : ℕ) → happened (is_exit_by t) made ≡ exited t
  pub unjoined : (t : ℕ) → IsFalse (happened (is_join_of t) made)
  pub held : (m : ℕ) → holder_in made m ≡ holder m
  pub shared : (m t : ℕ) → shares_in made m t ≡ sharing m t
  pub values : (x : ℕ) → value_in made x ≡ value x
  pub counted_are : length made ≡ count

-- ---- what is nowhere yet

abbrev pub nobody : ℕ → Bool
nobody t = false

abbrev pub no_holder : ℕ → Option ℕ
no_holder m = None

abbrev pub no_sharer : ℕ → ℕ → Bool
no_sharer m t = false

abbrev pub no_value : ℕ → ℕ
no_value x = 0

-- ---- what a prologue of the log leaves

-- a thread of the status was forked, or is thread 0, and was not joined
abbrev pub is_there : Status → Bool
is_there Live = true
is_there Exited = true
is_there _ = false

-- it has exited, and was not joined
abbrev pub is_exited : Status → Bool
is_exited Exited = true
is_exited _ = false

-- a function at the numbers below k, and elsewhere z
abbrev pub upto : {A : Type 0} → ℕ → (ℕ → A) → A → ℕ → A
upto k f z m = if nat_lt m k then f m else z

-- the sharers of the locks below m, and of lock m those below u
abbrev pub sharers_upto : List Event → ℕ → ℕ → ℕ → ℕ → Bool
sharers_upto log m u i t =
    if m == i then upto u (λ v. shares_in log m v) false t else upto m (λ l. shares_in log l t) false i

-- ---- the stages

-- the threads below k are forked
abbrev pub HasForked : Bounds → List Event → List Event → ℕ → Type 0
HasForked bounds log made k =
    Leaves bounds made (upto k (forks log) false) nobody no_holder no_sharer no_value (counted k (forks log))

-- all threads are, and the variables below k are written
abbrev pub HasWritten : Bounds → List Event → List Event → ℕ → Type 0
HasWritten bounds log made k =
    Leaves bounds made (forks log) nobody no_holder no_sharer (upto k (value_in log) 0)
    (counted bounds.threads (forks log) + counted k (has_value log))

-- all variables are, and the locks below k are acquired
abbrev pub HasAcquired : Bounds → List Event → List Event → ℕ → Type 0
HasAcquired bounds log made k =
    Leaves bounds made (forks log) nobody (upto k (holder_in log) None) no_sharer (value_in log)
    (counted bounds.threads (forks log) + counted bounds.variables (has_value log) + counted k (is_held log))

-- all locks are, and the locks below m are shared, and lock m by the threads below u
abbrev pub HasShared : Bounds → List Event → List Event → ℕ → ℕ → Type 0
HasShared bounds log made m u =
    Leaves bounds made (forks log) nobody (holder_in log) (sharers_upto log m u) (value_in log)
    (counted bounds.threads (forks log) + counted bounds.variables (has_value log) + counted bounds.locks (is_held log)
    + summed m (sharers_of bounds log) + counted u (shares_in log m))

-- all are, and the threads below k have exited
abbrev pub HasExited : Bounds → List Event → List Event → ℕ → Type 0
HasExited bounds log made k =
    Leaves bounds made (forks log) (upto k (exits log) false) (holder_in log) (shares_in log) (value_in log)
    (counted bounds.threads (forks log) + counted bounds.variables (has_value log) + counted bounds.locks (is_held log)
    + summed bounds.locks (sharers_of bounds log) + counted k (exits log))
