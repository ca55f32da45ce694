-- Threads that no thread forks.
use Rattle.std.specs.Prelude.{ℕ, ◌-◌, ◌==◌, Bool, false, not, List, filter, map}
use Rattle.std.specs.List.{list_any, range_with_len}
use Rattle.velo_events.specs.declared.event.ThreadId.{ThreadId}
use Rattle.velo_workload.specs.Program.{Program}
use Rattle.velo_workload.specs.declared.statement.Statement.{Statement}
use Rattle.velo_workload.specs.declared.statement.Statement.TheVariants.{Fork}

-- the statement forks the thread
abbrev pub forks : ThreadId → Statement → Bool
forks t (Fork u) = u.0 == t.0
forks t statement = false

-- some body forks it
unfoldable pub is_forked : Program → ThreadId → Bool
is_forked program t = list_any (list_any (forks t)) program.bodies

abbrev pub thread_of_number : ℕ → ThreadId
thread_of_number n = record { 0 = n }

-- the threads, but the first, that no body forks: they do nothing, whatever the schedule
unfoldable pub never_forked : Program → List ThreadId
never_forked program = filter (λ t. not (is_forked program t)) (map thread_of_number (range_with_len 1 (program.bounds.threads - 1)))
