-- A watch of what is left of a log on its way, and what its next step comes to.
use Rattle.std.specs.Prelude.{◌≡◌, ◌≤◌, ℕ, [], ◌∷◌, ◌++◌, Bool, true, false, List, length, Option, IfSome, Result, Ok, Err}
use Rattle.velo_watch.specs.Whole.{IsWholeOf}
use Rattle.velo_events.specs.declared.config.Config.{Config}
use Rattle.velo_events.specs.declared.event.Event.{Event}
use Rattle.velo_events.specs.declared.limits.TheConstants.{MAX_EVENTS}
use Rattle.velo_events.specs.Graph.{HasCycle}
use Rattle.velo_events.specs.WellFormed.{IsWellFormed}
use Rattle.velo_filter.specs.Left.{Omitted, places_of, rest_of}
use Rattle.velo_filter.specs.Marks.{AreMarks}
use Rattle.velo_heap.specs.Contents.{bounds_of}
use Rattle.velo_logtext.specs.Finding.{ReadsAs}
use Rattle.velo_logtext.specs.Reader.{HasGiven, IsMetBehind}
use Rattle.velo_logtext.specs.Text.{IsLogText}
use Rattle.velo_watch.specs.Alarm.{TellsPartOfRest, TellsRest}
use Rattle.velo_watch.specs.Faults.{IsFaultOfRest}
use Rattle.velo_watch.specs.declared.rest.Rest.{Rest}
use Rattle.velo_watch.specs.declared.rest_watch.RestWatch.{RestWatch}
use Rattle.velo_watch.specs.Watch.{IsFront}
use Rattle.velo_watch.specs.declared.fault.WatchFault.{WatchFault}
use Rattle.velo_watch.specs.declared.fault.WatchFault.TheVariants.{Log, Replay, Write}

-- it has what is left of these events, the place of each, and the marks for the next one
pub record IsRestOf (omitted : Omitted) (log : List Event) (rest : Rest) : Type 0 where
  pub events : rest.world.log ≡ rest_of omitted log
  pub places : rest.places.items ≡ places_of omitted log
  pub as_many : length rest.rows.items ≡ 256
  pub marks : AreMarks omitted log (length log) rest.rows.items

-- all its events happened, within the limit of events, and it has what is left of them
pub record CanGoOn (omitted : Omitted) (watch : RestWatch) : Type 0 where
  pub whole : IsWholeOf watch.whole.trace.events watch.whole.state
  pub bounds : bounds_of watch.whole.state.heap ≡ watch.rest.world.config.bounds
  pub rest : IsRestOf omitted watch.whole.trace.events watch.rest
  pub room : length watch.whole.trace.events ≤ watch.rest.world.config.events

-- of the input, these events were given; and the output grew by what is told of what is left of them
pub record IsUnderWay (omitted : Omitted) (read remaining old new : Option (List ℕ))
    (watch : RestWatch) : Type 0 where
  pub given : HasGiven read watch.whole.trace.events watch.reader remaining
  pub bounds : watch.rest.world.config.bounds ≡ watch.reader.bounds
  pub told : TellsRest omitted watch.whole.trace.events old new

-- these events happened, within the limit of events, and what is left of them is told
pub record CameAbout (omitted : Omitted) (old new : Option (List ℕ)) (config : Config)
    (log : List Event) : Type 0 where
  pub well_formed : IsWellFormed config.bounds log
  pub room : length log ≤ config.events
  pub told : TellsRest omitted log old new

-- the line of the alarm broke off, which the last of these events of the input raised
pub record FailsToTell (omitted : Omitted) (read old new : Option (List ℕ)) (config : Config)
    (log : List Event) (e : Event) : Type 0 where
  pub front : IsFront read config.bounds (log ++ e ∷ [])
  pub well_formed : IsWellFormed config.bounds (log ++ e ∷ [])
  pub room : length (log ++ e ∷ []) ≤ config.events
  pub no_cycle : ¬ HasCycle (rest_of omitted log)
  pub part : TellsPartOfRest omitted (log ++ e ∷ []) old new

-- why there is no next event behind these
abbrev pub FailsAfter : Omitted → Option (List ℕ) → Option (List ℕ) → Option (List ℕ) → Config
    → List Event → WatchFault → Type 0
FailsAfter omitted read old new config log (Log fault) =
    CameAbout omitted old new config log × IsMetBehind (length log) fault
    × IfSome read (λ bytes. ReadsAs MAX_EVENTS bytes (Err fault))
FailsAfter omitted read old new config log (Replay fault) =
    CameAbout omitted old new config log
    × ((e : Event) × IsFront read config.bounds (log ++ e ∷ [])
    × IsFaultOfRest omitted config log e fault)
FailsAfter omitted read old new config log Write =
    (e : Event) × FailsToTell omitted read old new config log e

-- the next event happened, and what is left is told; or the input is at its end, and is these events; or
-- neither
abbrev pub Steps : Omitted → Option (List ℕ) → Option (List ℕ) → RestWatch → Result Bool WatchFault
    → RestWatch → Option (List ℕ) → Option (List ℕ) → Type 0
Steps omitted read old watch (Ok true) watch' remaining new =
    IsUnderWay omitted read remaining old new watch'
    × ((e : Event) × (watch'.whole.trace.events ≡ watch.whole.trace.events ++ e ∷ []))
Steps omitted read old watch (Ok false) watch' remaining new =
    (watch'.whole.trace.events ≡ watch.whole.trace.events)
    × TellsRest omitted watch'.whole.trace.events old new
    × IfSome read (λ bytes. IsLogText bytes watch'.rest.world.config.bounds watch'.whole.trace.events)
Steps omitted read old watch (Err fault) watch' remaining new =
    FailsAfter omitted read old new watch.rest.world.config watch.whole.trace.events fault
