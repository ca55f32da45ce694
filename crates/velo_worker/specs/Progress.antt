-- What a thread does of its body up to its next event, the action that it tries then, and how it
-- goes on after it.
use Rattle.std.specs.Prelude.{ℕ, ◌+◌, ◌%◌, ◌^◌, Bool, true, false, List, [], ◌∷◌, Option, Some, None, slice_get, if◌then◌else◌}
use Rattle.velo_events.specs.declared.event.Action.{Action}
use Rattle.velo_events.specs.declared.event.Action.TheVariants as action
use Rattle.velo_workload.specs.declared.statement.Statement.{Statement}
use Rattle.velo_workload.specs.declared.statement.Statement.TheVariants.{Read, Write, Set, Add, Acquire, Release, Share, Unshare, Begin, End, Fork, Join, Repeat, Done}
use Rattle.velo_worker.specs.declared.progress.Progress.{Progress}
use Rattle.velo_worker.specs.Walk.{walk_of}

-- a thread that has done nothing
abbrev pub start_of : List Statement → Progress
start_of body = record { register = 0; left = walk_of body; done = false }

-- a statement without an event
abbrev pub is_quiet : Statement → Bool
is_quiet (Set n) = true
is_quiet (Add n) = true
is_quiet (Repeat n) = true
is_quiet Done = true
is_quiet statement = false

-- the register after such a statement
abbrev pub register_after : ℕ → Statement → ℕ
register_after register (Set n) = n
register_after register (Add n) = (register + n) % 2 ^ 64
register_after register statement = register

-- the statements without events are done, up to the next event
unfoldable pub settled_on : ℕ → List Statement → Bool → Progress
settled_on register [] done = record { register = register; left = []; done = done }
settled_on register (statement ∷ rest) done =
    if is_quiet statement then settled_on (register_after register statement) rest done
    else record { register = register; left = statement ∷ rest; done = done }

abbrev pub settled : Progress → Progress
settled p = settled_on p.register p.left p.done

-- what the next statement tries; an exit where none is left
abbrev pub action_for : ℕ → Option Statement → Action
action_for register (Some (Read x)) = action.Read x
action_for register (Some (Write x)) = action.Write x register
action_for register (Some (Acquire m)) = action.Acquire m
action_for register (Some (Release m)) = action.Release m
action_for register (Some (Share m)) = action.AcquireShared m
action_for register (Some (Unshare m)) = action.ReleaseShared m
action_for register (Some (Begin label)) = action.Begin label
action_for register (Some End) = action.End
action_for register (Some (Fork t)) = action.Fork t
action_for register (Some (Join t)) = action.Join t
action_for register statement = action.Exit

abbrev pub wanted : Progress → Action
wanted p = action_for p.register (slice_get p.left 0)

-- the value that was read, if one was
abbrev pub read_or : Option ℕ → ℕ → ℕ
read_or (Some value) register = value
read_or None register = register

-- after its event; after its exit the thread is done
abbrev pub after_event_on : ℕ → List Statement → Bool → Option ℕ → Progress
after_event_on register [] done read = record { register = register; left = []; done = true }
after_event_on register (statement ∷ rest) done read = record { register = read_or read register; left = rest; done = done }

abbrev pub after_event : Progress → Option ℕ → Progress
after_event p read = after_event_on p.register p.left p.done read
