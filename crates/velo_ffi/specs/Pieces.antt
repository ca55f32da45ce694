-- The text of a log in pieces of whole lines.
use Rattle.std.specs.Prelude.{◌≡◌, ℕ, ◌+◌, ◌-◌, ◌<◌, ◌≤◌, ◌⊎◌, ◌==◌, true, if◌then◌else◌, List, [], ◌∷◌, ◌++◌, length, take, drop}
use Rattle.velo_events.specs.declared.config.Bounds.{Bounds}
use Rattle.velo_events.specs.declared.event.Event.{Event}
use Rattle.velo_logtext.specs.Text.{event_lines, header_line}
use Rattle.velo_ffi.specs.declared.answers.TheConstants.{BAD_NUMBER, DONE, TOO_SHORT}

-- the header, before the first event
abbrev pub head_at : Bounds → ℕ → List ℕ
head_at bounds from = if from == 0 then header_line (true, bounds) else []

-- the piece from one event up to another: their lines, and before the first event the header
abbrev pub piece : Bounds → List Event → ℕ → ℕ → List ℕ
piece bounds log from next = head_at bounds from ++ event_lines (take (next - from) (drop from log))

-- the shortest piece from there: one line, if there is one
abbrev pub first_piece : Bounds → List Event → ℕ → List ℕ
first_piece bounds log from = head_at bounds from ++ event_lines (take 1 (drop from log))

-- a piece was put at the front of the buffer: it ends at an event that is there, and the bytes
-- after it are unspecified
pub record PutsPiece (bounds : Bounds) (log : List Event) (from : ℕ) (buffer : List ℕ) (count next : ℕ) : Type 0 where
  pub from_there : from ≤ next
  pub goes_on : from < length log → from < next
  pub there : next ≤ length log
  pub within : count ≤ length buffer
  pub text : take count buffer ≡ piece bounds log from next
  -- one line more has no room
  pub most : next < length log → length buffer < length (piece bounds log from (next + 1))

-- not even the shortest piece has room, and its length is returned, which is never more than this
pub record LacksRoom (bounds : Bounds) (log : List Event) (from : ℕ) (buffer : List ℕ) (count : ℕ) : Type 0 where
  pub short : length buffer < count
  pub needed : count ≡ length (first_piece bounds log from)
  pub small : count ≤ 180

-- a piece was put; or none has room; or the log ends before the event to begin with
abbrev pub TellsPiece : Bounds → List Event → ℕ → ℕ → List ℕ → ℕ → ℕ → Type 0
TellsPiece bounds log from status buffer count next =
    ((status ≡ DONE) × PutsPiece bounds log from buffer count next)
    ⊎ (((status ≡ TOO_SHORT) × LacksRoom bounds log from buffer count) ⊎ ((status ≡ BAD_NUMBER) × (length log < from)))

-- ---- all pieces

-- From one event on pieces end at these places, one after another, and the last at the end of the
-- log. Each goes on, as one does that is put before the end of the log
abbrev pub LeadToEnd : List Event → ℕ → List ℕ → Type 0
LeadToEnd log from [] = ⊥
LeadToEnd log from (next ∷ []) = next ≡ length log
LeadToEnd log from (next ∷ after ∷ more) = (from < next) × LeadToEnd log next (after ∷ more)

-- the pieces that end there, put together
abbrev pub joined : Bounds → List Event → ℕ → List ℕ → List ℕ
joined bounds log from [] = []
joined bounds log from (next ∷ more) = piece bounds log from next ++ joined bounds log next more
