-- A reader that gives the events of a log of any length one by one.
use Rattle.std.specs.Prelude.{◌≡◌, ℕ, ◌+◌, ◌==◌, ◌≤◌, if◌then◌else◌, List, [], ◌∷◌, ◌++◌, length, IfSome, IsTrue, Option, Some, None, Result, Ok, Err}
use Rattle.std.specs.Io.KnownBytes.{Keeps, prepend_known, IsAtEnd}
use Rattle.velo_events.specs.declared.event.Event.{Event}
use Rattle.velo_logtext.specs.declared.fault.LogFault.{LogFault}
use Rattle.velo_logtext.specs.declared.fault.LogFault.TheVariants.{BadLine, Truncated, TooLong, Read}
use Rattle.velo_logtext.specs.Text.{AreBounds, AreEventsIn, text_in}
use Rattle.velo_logtext.specs.Finding.{Stands, ReadsAs}
use Rattle.velo_logtext.specs.Reader.{ReaderState}
use Rattle.velo_watch.specs.declared.long.TheConstants.{MAX_WATCHED}

-- Of the bytes, these events were given: header and lines of them stand at the front, then what is held, and then what the
-- source has still to give
pub record HasRead (bytes : Option (List ℕ)) (events : List Event) (reader : ReaderState) (remaining : Option (List ℕ)) : Type 0 where
  pub bounds_fit : AreBounds reader.bounds
  pub events_fit : AreEventsIn reader.shares events
  pub text : Keeps bytes (prepend_known (text_in reader.shares reader.bounds events ++ reader.held) remaining)
  pub count : reader.given ≡ length events
  pub few : length events ≤ MAX_WATCHED
  pub end : IsTrue reader.ended → IsAtEnd remaining

-- What comes behind these events of the bytes: an event, whose line stands there; or the end, and the bytes are the text of
-- these events; or what stands in the bytes is a first wrong line
abbrev pub Gives : Option (List ℕ) → List Event → Result (Option Event) LogFault → ReaderState → Option (List ℕ) → Type 0
Gives bytes events (Ok (Some e)) reader remaining = HasRead bytes (events ++ e ∷ []) reader remaining
Gives bytes events (Ok None) reader remaining = IfSome bytes (λ all. Stands MAX_WATCHED all (Ok (reader.bounds, events)))
Gives bytes events (Err fault) reader remaining = IfSome bytes (λ all. ReadsAs MAX_WATCHED all (Err fault))

-- how many events were given after an answer
abbrev pub given_after : Result (Option Event) LogFault → ℕ → ℕ
given_after (Ok (Some e)) given = given + 1
given_after (Ok None) given = given
given_after (Err fault) given = given

-- where a fault is met: behind so many events, in the line that comes next; as `IsMetBehind` of `velo_logtext`, for MAX_WATCHED
-- events
abbrev pub IsMetEndless : ℕ → LogFault → Type 0
IsMetEndless given (BadLine n) = n ≡ given + 2
IsMetEndless given (Truncated n) = n ≡ given + 2
IsMetEndless given TooLong = given ≡ MAX_WATCHED
IsMetEndless given Read = Unit {0}
IsMetEndless given _ = ⊥

-- a fault at its line in the whole log
abbrev pub fault_after : ℕ → LogFault → LogFault
fault_after given (BadLine n) = if given == MAX_WATCHED then TooLong else BadLine (given + 2)
fault_after given (Truncated n) = if given == MAX_WATCHED then TooLong else Truncated (given + 2)
fault_after given other = other
