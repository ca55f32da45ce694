-- Which operations of some scripts are free, and what is kept to find that out.
use Rattle.std.specs.Prelude.{◌≡◌, ℕ, Bool, false, ◌&&◌, ◌||◌, ◌==◌, if◌then◌else◌, List, [], length, slice_get, slice_index_or, Some, IsTrue, unwrap_or}
use Rattle.velo_events.specs.Block.{any_below}
use Rattle.velo_events.specs.declared.event.Kind.{Kind}
use Rattle.velo_heap.specs.Contents.{Tabulates}
use Rattle.velo_movers.specs.Scripts.{has_after, has_lock, shares_after, shares_lock, is_free}
use Rattle.velo_search.specs.declared.hold.Hold.{Hold}
use Rattle.velo_search.specs.Runs.{script_of}

-- the operations of each thread, and how many locks are looked at as guards of them
pub record Guarded : Type 0 where
  pub kinds : List (List Kind)
  pub locks : ℕ

-- ---- what is free

-- thread t has done so many, and of the others each may have done any number
abbrev pub done_by_one : ℕ → ℕ → ℕ → ℕ
done_by_one t i u = if u == t then i else 0

-- no operation that another thread ever does hinders operation k, which is at place i of thread t's
-- script; so many locks are looked at
abbrev pub is_free_at : ℕ → List (List Kind) → ℕ → ℕ → Kind → Bool
is_free_at locks scripts t i k =
    is_free (length scripts) locks (script_of scripts) (done_by_one t i) t k

-- the same, whatever locks are looked at
pub record IsFreeAt (scripts : List (List Kind)) (t i : ℕ) (k : Kind) : Type 0 where
  pub locks : ℕ
  pub free : IsTrue (is_free_at locks scripts t i k)

-- it is marked so
abbrev pub is_marked : List (List Bool) → ℕ → ℕ → Bool
is_marked marks t i = unwrap_or (slice_get (slice_index_or marks t []) i) false

-- each operation has a mark, which says whether it is free
pub record AreFree (locks : ℕ) (scripts : List (List Kind)) (marks : List (List Bool)) : Type 0 where
  pub same : (t : ℕ) → length (slice_index_or marks t []) ≡ length (script_of scripts t)
  pub each : (t i : ℕ) (k : Kind) → slice_get (script_of scripts t) i ≡ Some k →
      is_marked marks t i ≡ is_free_at locks scripts t i k

-- ---- how a thread has its locks

abbrev pub no_hold : Hold
no_hold = record { alone = false; shared = false }

-- lock m after these operations of the thread
abbrev pub hold_after : List Kind → ℕ → Hold
hold_after ks m = record { alone = has_lock m ks; shared = shares_lock m ks }

-- and after one more
abbrev pub hold_next : ℕ → Hold → Kind → Hold
hold_next m h k = record { alone = has_after m h.alone k; shared = shares_after m h.shared k }

-- so many locks are as a thread has them behind these
pub record AreHeld (locks : ℕ) (before : List Kind) (held : List Hold) : Type 0 where
  pub count : length held ≡ locks
  pub table : Tabulates held (hold_after before)

-- two threads can't have a lock so at one time
abbrev pub excludes : Hold → Hold → Bool
excludes mine theirs = (mine.alone && (theirs.alone || theirs.shared)) || (mine.shared && theirs.alone)

-- they have some lock so
abbrev pub some_excluded : List Hold → List Hold → Bool
some_excluded mine theirs = any_below (length mine)
    (λ m. excludes (slice_index_or mine m no_hold) (slice_index_or theirs m no_hold))
