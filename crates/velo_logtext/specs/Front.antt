-- What a reader makes of the bytes that it holds. Private contracts cite these words.
use Rattle.std.specs.Prelude.{◌≡◌, ℕ, ◌||◌, ◌==◌, nat_lt, Bool, true, false, if◌then◌else◌, List, [], ◌∷◌, ◌++◌, length, IfSome, Option, Result, Ok, Err}
use Rattle.std.specs.List.{list_any}
use Rattle.velo_events.specs.declared.event.Event.{Event}
use Rattle.velo_events.specs.declared.limits.TheConstants.{MAX_EVENTS}
use Rattle.velo_logtext.specs.declared.fault.LogFault.{LogFault}
use Rattle.velo_logtext.specs.declared.fault.LogFault.TheVariants.{BadLine, Truncated, TooLong, Read, Memory}
use Rattle.velo_logtext.specs.declared.reader.Front.{Front}
use Rattle.velo_logtext.specs.declared.reader.Front.TheVariants.{Line, Open, End}
use Rattle.velo_logtext.specs.declared.window.TheConstants.{LONGEST_LINE}
use Rattle.velo_logtext.specs.Finding.{Stands}
use Rattle.velo_logtext.specs.Reader.{ReaderState, HasGiven, IsMetBehind}

-- a newline stands there, or more bytes than a line may have
abbrev pub is_whole : List ℕ → Bool
is_whole bytes = nat_lt LONGEST_LINE (length bytes) || list_any (λ b. b == 10) bytes

-- bytes in which no line stands: a wrong line with this number, or the beginning of one, or nothing
abbrev pub judged_front : List ℕ → Bool → ℕ → Result Front LogFault
judged_front [] ended line = if ended then Ok End else Ok Open
judged_front (b ∷ bytes) ended line =
    if is_whole (b ∷ bytes) then Err (BadLine line) else (if ended then Err (Truncated line) else Ok Open)

-- the same behind as many lines of events as there may be
abbrev pub judged_full : List ℕ → Bool → Result Front LogFault
judged_full [] ended = if ended then Ok End else Ok Open
judged_full (b ∷ bytes) ended = Err TooLong

-- a fault that stands in bytes
abbrev pub IsOfText : LogFault → Type 0
IsOfText Read = ⊥
IsOfText Memory = ⊥
IsOfText _ = Unit {0}

-- what taking does to the reader: only the line of an event changes it, the end is told only where the source has told it, and
-- more bytes are wanted only where no line is whole
abbrev pub Takes : ReaderState → Result Front LogFault → ReaderState → Type 0
Takes old (Ok (Line e)) new = (new.bounds ≡ old.bounds) × (new.shares ≡ old.shares)
Takes old (Ok End) new = (new ≡ old) × (old.ended ≡ true)
Takes old (Ok Open) new = (new ≡ old) × (old.ended ≡ false) × (is_whole old.held ≡ false)
Takes old (Err fault) new = (new ≡ old) × IsOfText fault × IsMetBehind old.given fault

-- and what it says of the bytes, of which these events were given
abbrev pub Finds : Option (List ℕ) → List Event → Result Front LogFault → ReaderState → Option (List ℕ) → Type 0
Finds bytes events (Ok (Line e)) reader remaining = HasGiven bytes (events ++ e ∷ []) reader remaining
Finds bytes events (Ok End) reader remaining = IfSome bytes (λ all. Stands MAX_EVENTS all (Ok (reader.bounds, events)))
Finds bytes events (Ok Open) reader remaining = Unit {0}
Finds bytes events (Err fault) reader remaining = IfSome bytes (λ all. Stands MAX_EVENTS all (Err fault))
