-- A reader that gives the events of a log one by one, as their lines come.
use Rattle.std.specs.Prelude.{◌≡◌, ℕ, ◌+◌, ◌≤◌, ◌<◌, ◌⊎◌, Bool, List, [], ◌∷◌, ◌++◌, length, Contains, IfSome, IsTrue, Option, Some, None, Result, Ok, Err}
use Rattle.std.specs.Io.KnownBytes.{Keeps, prepend_known, IsAtEnd}
use Rattle.velo_events.specs.declared.config.Bounds.{Bounds}
use Rattle.velo_events.specs.declared.event.Event.{Event}
use Rattle.velo_events.specs.declared.limits.TheConstants.{MAX_EVENTS}
use Rattle.velo_events.specs.Refusals.{GrowthRefused}
use Rattle.velo_logtext.specs.declared.window.TheConstants.{LONGEST_LINE}
use Rattle.velo_logtext.specs.declared.fault.LogFault.{LogFault}
use Rattle.velo_logtext.specs.declared.fault.LogFault.TheVariants.{BadHeader, BadLine, Truncated, TooLong, Read, Memory}
use Rattle.velo_logtext.specs.Text.{AreBounds, AreEventsIn, text_in}
use Rattle.velo_logtext.specs.Finding.{Stands, ReadsAs}

pub record ReaderState : Type 0 where
  -- what the header says: whether the version has shared operations, and the bounds
  pub shares : Bool
  pub bounds : Bounds
  -- how many events were given
  pub given : ℕ
  -- the bytes that were read and stand behind their lines
  pub held : List ℕ
  -- the source has told its end
  pub ended : Bool

-- Of the bytes, these events were given: header and lines of them stand at the front, then what is held, and then what the
-- source has still to give.
pub record HasGiven (bytes : Option (List ℕ)) (events : List Event) (reader : ReaderState) (remaining : Option (List ℕ)) : Type 0 where
  pub bounds_fit : AreBounds reader.bounds
  pub events_fit : AreEventsIn reader.shares events
  pub text : Keeps bytes (prepend_known (text_in reader.shares reader.bounds events ++ reader.held) remaining)
  pub count : reader.given ≡ length events
  pub few : length events ≤ MAX_EVENTS
  pub end : IsTrue reader.ended → IsAtEnd remaining

-- What comes behind these events of the bytes: an event, whose line stands there; or the end, and the bytes are the text of
-- these events; or what stands in the bytes is a first wrong line.
abbrev pub Gives : Option (List ℕ) → List Event → Result (Option Event) LogFault → ReaderState → Option (List ℕ) → Type 0
Gives bytes events (Ok (Some e)) reader remaining = HasGiven bytes (events ++ e ∷ []) reader remaining
Gives bytes events (Ok None) reader remaining = IfSome bytes (λ all. Stands MAX_EVENTS all (Ok (reader.bounds, events)))
Gives bytes events (Err fault) reader remaining = IfSome bytes (λ all. ReadsAs MAX_EVENTS all (Err fault))

-- a newline stands in the bytes, or they are more than a line may have
abbrev pub HasWholeLine : List ℕ → Type 0
HasWholeLine held = Contains held 10 ⊎ (LONGEST_LINE < length held)

-- where a fault is met: in the header
abbrev pub IsMetInHeader : LogFault → Type 0
IsMetInHeader BadHeader = Unit {0}
IsMetInHeader Read = Unit {0}
IsMetInHeader Memory = GrowthRefused
IsMetInHeader _ = ⊥

-- or behind so many events, in the line that comes next; no memory is asked for there
abbrev pub IsMetBehind : ℕ → LogFault → Type 0
IsMetBehind given (BadLine n) = n ≡ given + 2
IsMetBehind given (Truncated n) = n ≡ given + 2
IsMetBehind given TooLong = given ≡ MAX_EVENTS
IsMetBehind given Read = Unit {0}
IsMetBehind given _ = ⊥
