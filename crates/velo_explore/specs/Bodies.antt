-- The operations of a body one after another, without values.
use Rattle.std.specs.Prelude.{ℕ, List, [], ◌∷◌, ◌++◌, Option, Some, None, filter, map, slice_get}
use Rattle.velo_events.specs.declared.event.Kind.{Kind}
use Rattle.velo_events.specs.declared.event.Kind.TheVariants.{Exit}
use Rattle.velo_workload.specs.declared.statement.Statement.{Statement}
use Rattle.velo_workload.specs.Program.{Program}
use Rattle.velo_worker.specs.Counts.{has_event}
use Rattle.velo_worker.specs.Progress.{action_for}
use Rattle.velo_worker.specs.Walk.{walk_of}
use Rattle.velo_movers.specs.Scripts.{plain}

-- the operation of a statement that is an event
abbrev pub operation : Statement → Kind
operation s = plain (action_for 0 (Some s))

abbrev pub operations : List Statement → List Kind
operations statements = map operation statements

-- those of the statements that are events, and an exit
abbrev pub operations_of : List Statement → List Kind
operations_of statements = operations (filter has_event statements) ++ Exit ∷ []

abbrev pub operations_by : Option (List Statement) → List Kind
operations_by (Some body) = operations_of (walk_of body)
operations_by None = []

-- the operations of thread t of the program
abbrev pub scripts : Program → ℕ → List Kind
scripts program t = operations_by (slice_get program.bodies t)

-- of all threads, in a list
abbrev pub all_scripts : Program → List (List Kind)
all_scripts program = map (λ body. operations_of (walk_of body)) program.bodies
