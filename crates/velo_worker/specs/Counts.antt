-- How many events a body has.
use Rattle.std.specs.Prelude.{ℕ, ◌+◌, not, Bool, List, count_by}
use Rattle.velo_workload.specs.declared.statement.Statement.{Statement}
use Rattle.velo_worker.specs.Progress.{is_quiet}
use Rattle.velo_worker.specs.Walk.{walk_of}

-- a statement that is an event
abbrev pub has_event : Statement → Bool
has_event statement = not (is_quiet statement)

-- its repeats written out, and the exit included
abbrev pub body_events : List Statement → ℕ
body_events body = count_by has_event (walk_of body) + 1
