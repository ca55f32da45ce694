-- The events of a log in groups: those of a thread, and the writes and the reads of a cell, which is a variable or a lock. What
-- conflicts with an event is in the groups that the event looks at.
use Rattle.std.specs.Prelude.{Bool, ◌&&◌, ◌||◌, ◌==◌, List, [], ◌∷◌, Some}
use Rattle.velo_events.specs.declared.event.Event.{Event}
use Rattle.velo_events.specs.declared.event.ThreadId.{ThreadId}
use Rattle.velo_events.specs.declared.event.Access.{Access}
use Rattle.velo_events.specs.declared.event.Access.TheVariants.{Shared, Exclusive}
use Rattle.velo_events.specs.Event.{are_same, access_of, cell_of, forked_of, is_exclusive, is_shared}
use Rattle.velo_search.specs.declared.group.Group.{Group}
use Rattle.velo_search.specs.declared.group.Group.TheVariants.{OfThread, WritesOf, ReadsOf}

-- an operation of the thread, with this access, is a member
abbrev pub is_member : ThreadId → Access → Group → Bool
is_member t access (OfThread u) = (t.0 == u.0) || are_same (forked_of access) (Some u.0)
is_member t access (WritesOf c) = is_exclusive access && are_same (cell_of access) (Some c.0)
is_member t access (ReadsOf c) = is_shared access && are_same (cell_of access) (Some c.0)

-- the event is a member
abbrev pub is_in : Event → Group → Bool
is_in e g = is_member e.thread (access_of e.kind) g

-- what an operation looks at beside its own thread
abbrev pub also_looks_at : Access → List Group
also_looks_at (Shared c) = WritesOf c ∷ []
also_looks_at (Exclusive c) = WritesOf c ∷ ReadsOf c ∷ []
also_looks_at (Access.Join u) = OfThread u ∷ []
also_looks_at _ = []

-- the groups that an event looks at
abbrev pub looks_at : Event → List Group
looks_at e = OfThread e.thread ∷ also_looks_at (access_of e.kind)
