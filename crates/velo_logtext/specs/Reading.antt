-- What the readers of lines take from the front of bytes. Private contracts cite these words.
use Rattle.std.specs.Prelude.{ℕ, Bool, true, false, ◌-◌, ◌^◌, ◌==◌, List, codes, Some, None, if◌then◌else◌}
use Rattle.velo_bytes.specs.Parsing.{◌>>=◌, Taken, number_at, spaced_number_at, after_word, by_word, of_number}
use Rattle.velo_events.specs.declared.event.Event.{Event}
use Rattle.velo_events.specs.declared.limits.TheConstants.{MAX_LOCKS, MAX_THREADS}
use Rattle.velo_events.specs.declared.event.Kind.{Kind}
use Rattle.velo_logtext.specs.Text.{Head, has_kind}
use Rattle.velo_events.specs.declared.event.Kind.TheVariants.{Read, Write, Acquire, Release, AcquireShared, ReleaseShared, Begin, End, Fork, Join, Exit}

-- a variable's number and a value
unfoldable pub access_at : List ℕ → Taken (ℕ × ℕ)
access_at bytes = do
  x ← number_at 65535 bytes
  rest ← after_word (codes " ") x.1
  v ← number_at (2 ^ 64 - 1) rest
  Some ((x.0, v.0), v.1)

-- forks, joins and exits
unfoldable pub thread_kind_at : List ℕ → Taken Kind
thread_kind_at bytes =
    by_word (after_word (codes "fork ") bytes) (of_number 255 (λ u. Fork (record { 0 = u })))
    (by_word (after_word (codes "join ") bytes) (of_number 255 (λ u. Join (record { 0 = u })))
    (by_word (after_word (codes "exit") bytes) (λ rest. Some (Exit, rest))
    None))

-- begins and ends, or the above
unfoldable pub block_kind_at : List ℕ → Taken Kind
block_kind_at bytes =
    by_word (after_word (codes "begin ") bytes) (of_number (2 ^ 32 - 1) (λ l. Begin (record { 0 = l })))
    (by_word (after_word (codes "end") bytes) (λ rest. Some (End, rest))
    (thread_kind_at bytes))

-- shared acquires and releases, or the above
unfoldable pub share_kind_at : List ℕ → Taken Kind
share_kind_at bytes =
    by_word (after_word (codes "acqs ") bytes) (of_number 65535 (λ m. AcquireShared (record { 0 = m })))
    (by_word (after_word (codes "rels ") bytes) (of_number 65535 (λ m. ReleaseShared (record { 0 = m })))
    (block_kind_at bytes))

-- acquires and releases, or the above
unfoldable pub lock_kind_at : List ℕ → Taken Kind
lock_kind_at bytes =
    by_word (after_word (codes "acq ") bytes) (of_number 65535 (λ m. Acquire (record { 0 = m })))
    (by_word (after_word (codes "rel ") bytes) (of_number 65535 (λ m. Release (record { 0 = m })))
    (share_kind_at bytes))

-- any operation
unfoldable pub kind_at : List ℕ → Taken Kind
kind_at bytes =
    by_word (after_word (codes "rd ") bytes) (λ rest. access_at rest >>= λ a. Some (Read (record { 0 = a.0.0 }) a.0.1, a.1))
    (by_word (after_word (codes "wr ") bytes) (λ rest. access_at rest >>= λ a. Some (Write (record { 0 = a.0.0 }) a.0.1, a.1))
    (lock_kind_at bytes))

-- an event's line with its newline
unfoldable pub event_at : List ℕ → Taken Event
event_at bytes = do
  t ← number_at 255 bytes
  words ← after_word (codes " ") t.1
  kind ← kind_at words
  rest ← after_word (codes "\n") kind.1
  Some (record { thread = record { 0 = t.0 }; kind = kind.0 }, rest)

-- the same in a version, which has shared operations or not
unfoldable pub event_in : Bool → List ℕ → Taken Event
event_in shares bytes = event_at bytes >>= λ e. if has_kind shares e.0.kind then Some e else None

-- the bounds and the newline
unfoldable pub bounds_at : Bool → List ℕ → Taken Head
bounds_at shares words = do
  t ← spaced_number_at MAX_THREADS words
  v ← spaced_number_at 65535 t.1
  m ← number_at MAX_LOCKS v.1
  rest ← after_word (codes "\n") m.1
  if t.0 == 0 then None else Some ((shares, record { threads = t.0; variables = v.0; locks = m.0 }), rest)

-- the first line with its newline
unfoldable pub header_at : List ℕ → Taken Head
header_at bytes =
    by_word (after_word (codes "vlog 2 ") bytes) (bounds_at true)
    (by_word (after_word (codes "vlog 1 ") bytes) (bounds_at false)
    None)
