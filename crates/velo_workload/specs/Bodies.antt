-- What a workload keeps of its bodies and its bounds.
use Rattle.std.specs.Prelude.{◌≡◌, ◌≤◌, ℕ, zero, suc, ◌==◌, ◌&&◌, nat_lt, Bool, false, IsTrue, List, [], ◌∷◌, Some, slice_get}
use Rattle.velo_events.specs.declared.config.Bounds.{Bounds}
use Rattle.velo_events.specs.declared.limits.TheConstants.{MAX_THREADS, MAX_LOCKS}
use Rattle.velo_workload.specs.declared.limits.TheConstants.{MAX_OPEN_REPEATS}
use Rattle.velo_workload.specs.declared.statement.Statement.{Statement}
use Rattle.velo_workload.specs.declared.statement.Statement.TheVariants.{Repeat, Done}

-- with n repeats open before them, each `Done` has its `Repeat` and each `Repeat` its `Done`, and
-- no more repeats are open at one place than may be
unfoldable pub is_nested : ℕ → List Statement → Bool
is_nested open_before [] = open_before == 0
is_nested open_before (Repeat times ∷ rest) = nat_lt open_before MAX_OPEN_REPEATS && is_nested (suc open_before) rest
is_nested zero (Done ∷ rest) = false
is_nested (suc open_before) (Done ∷ rest) = is_nested open_before rest
is_nested open_before (statement ∷ rest) = is_nested open_before rest

pub record IsBody (body : List Statement) : Type 0 where
  pub nested : IsTrue (is_nested 0 body)

pub record AreBodies (bodies : List (List Statement)) : Type 0 where
  pub each : (t : ℕ) (body : List Statement) → slice_get bodies t ≡ Some body → IsBody body

-- a configuration may have these bounds
pub record AreInRange (bounds : Bounds) : Type 0 where
  pub some_thread : 1 ≤ bounds.threads
  pub few_threads : bounds.threads ≤ MAX_THREADS
  pub few_locks : bounds.locks ≤ MAX_LOCKS
