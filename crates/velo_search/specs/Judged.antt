-- What a search says of marked scripts: each run is judged by what their parts leave of its log.
use Rattle.std.specs.Prelude.{ℕ, Bool, List}
use Rattle.velo_events.specs.declared.config.Bounds.{Bounds}
use Rattle.velo_events.specs.declared.event.Event.{Event}
use Rattle.velo_search.specs.declared.found.Found.{Found}
use Rattle.velo_search.specs.declared.seen.ThreadsSeen.{ThreadsSeen}
use Rattle.velo_search.specs.declared.state.State.{State}
use Rattle.velo_search.specs.declared.step.Step.{Step}
use Rattle.velo_search.specs.declared.trail.Trail.{Trail}
use Rattle.velo_search.specs.Faults.{Fault, IsFault}
use Rattle.velo_search.specs.Marked.{Marked}
use Rattle.velo_search.specs.Parts.{rest_by, AreParts, part_at}
use Rattle.velo_search.specs.Search.{IsClean, IsTried, IsTrueOf}
use Rattle.velo_search.specs.Trail.{AlarmsGoOn, AreShown, IsReachedBy, SettlesBy}

-- what is left of a log
abbrev pub rest_in : Marked → List Event → List Event
rest_in marked = rest_by (part_at marked.parts)

-- each operation has its part
abbrev pub ArePartsIn : Bounds → Marked → Type 0
ArePartsIn bounds marked = AreParts bounds marked.kinds (part_at marked.parts)

abbrev pub IsFaultIn : Bounds → Marked → Fault → List Event → Type 0
IsFaultIn bounds marked = IsFault bounds marked.kinds (rest_in marked)

-- ---- one state

abbrev pub IsReachedIn : Bounds → Marked → List Step → State → Type 0
IsReachedIn bounds marked = IsReachedBy bounds marked.kinds (rest_in marked)

abbrev pub IsCleanIn : Bounds → Marked → ℕ → Fault → State → Type 0
IsCleanIn bounds marked = IsClean bounds marked.kinds (rest_in marked)

abbrev pub SettlesIn : Bounds → Marked → Trail → State → Trail → State → Type 0
SettlesIn bounds marked = SettlesBy bounds marked.kinds (rest_in marked)

-- the states after the next events of the threads before one were kept
abbrev pub IsTriedIn : Bounds → Marked → State → List State → List State → ThreadsSeen → ℕ → Type 0
IsTriedIn bounds marked = IsTried bounds marked.kinds (rest_in marked)

-- ---- what was found, and what the trail shows of it

abbrev pub IsTrueIn : Bounds → Marked → Found → Type 0
IsTrueIn bounds marked = IsTrueOf bounds marked.kinds (rest_in marked)

abbrev pub AlarmsGoOnIn : Bounds → Marked → Trail → Trail → Type 0
AlarmsGoOnIn bounds marked = AlarmsGoOn bounds marked.kinds (rest_in marked)

abbrev pub AreShownIn : Bounds → Marked → Bool → Found → Trail → Type 0
AreShownIn bounds marked = AreShown bounds marked.kinds (rest_in marked)
