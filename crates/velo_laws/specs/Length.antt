-- How many events it takes to say what a log leaves.
use Rattle.std.specs.Prelude.{ℕ, zero, suc, ◌+◌, ◌==◌, Bool, not, ◌&&◌, is_some, if◌then◌else◌, List}
use Rattle.velo_events.specs.declared.config.Bounds.{Bounds}
use Rattle.velo_events.specs.declared.event.Event.{Event}
use Rattle.velo_events.specs.Event.{is_fork_of, is_join_of, is_exit_by}
use Rattle.velo_events.specs.Heap.{happened, value_in, holder_in, shares_in}

-- how many numbers below n pass the test
unfoldable pub counted : ℕ → (ℕ → Bool) → ℕ
counted zero test = 0
counted (suc n) test = counted n test + (if test n then 1 else 0)

-- the sum of f at the numbers below n
unfoldable pub summed : ℕ → (ℕ → ℕ) → ℕ
summed zero f = 0
summed (suc n) f = summed n f + f n

-- the thread was forked, or has exited, and was not joined
abbrev pub forks : List Event → ℕ → Bool
forks log t = happened (is_fork_of t) log && not (happened (is_join_of t) log)

abbrev pub exits : List Event → ℕ → Bool
exits log t = happened (is_exit_by t) log && not (happened (is_join_of t) log)

-- the variable's value is not 0
abbrev pub has_value : List Event → ℕ → Bool
has_value log x = not (value_in log x == 0)

-- some thread holds the lock alone
abbrev pub is_held : List Event → ℕ → Bool
is_held log m = is_some (holder_in log m)

-- how many threads share the lock
abbrev pub sharers_of : Bounds → List Event → ℕ → ℕ
sharers_of bounds log m = counted bounds.threads (shares_in log m)

-- a fork of each thread that was forked and not joined, a write of each value but 0, an acquisition of each lock that is held, one
-- for each that shares a lock, and an exit of each thread that has exited and was not joined
abbrev pub events_to_leave : Bounds → List Event → ℕ
events_to_leave bounds log =
    counted bounds.threads (forks log) + counted bounds.variables (has_value log) + counted bounds.locks (is_held log)
    + summed bounds.locks (sharers_of bounds log) + counted bounds.threads (exits log)
