-- The text of a log: a header, and a line for each event. Each line ends in a newline.
use Rattle.std.specs.Prelude.{◌≡◌, ℕ, ◌^◌, ◌<◌, ◌≤◌, Bool, true, ◌||◌, not, is_some, if◌then◌else◌, IsTrue, List, ◌++◌, codes, decimal}
use Rattle.std.specs.List.{flat_map, AllByRecursion}
use Rattle.velo_events.specs.declared.config.Bounds.{Bounds}
use Rattle.velo_events.specs.declared.event.Event.{Event}
use Rattle.velo_events.specs.declared.limits.TheConstants.{MAX_LOCKS, MAX_THREADS}
use Rattle.velo_events.specs.declared.event.Kind.{Kind}
use Rattle.velo_events.specs.Event.{shared_lock_of}
use Rattle.velo_events.specs.declared.event.Kind.TheVariants.{Read, Write, Acquire, Release, AcquireShared, ReleaseShared, Begin, End, Fork, Join, Exit}

-- an operation in words
abbrev pub kind_text : Kind → List ℕ
kind_text (Read x v) = codes "rd " ++ (decimal x.0 ++ (codes " " ++ decimal v))
kind_text (Write x v) = codes "wr " ++ (decimal x.0 ++ (codes " " ++ decimal v))
kind_text (Acquire m) = codes "acq " ++ decimal m.0
kind_text (Release m) = codes "rel " ++ decimal m.0
kind_text (AcquireShared m) = codes "acqs " ++ decimal m.0
kind_text (ReleaseShared m) = codes "rels " ++ decimal m.0
kind_text (Begin l) = codes "begin " ++ decimal l.0
kind_text End = codes "end"
kind_text (Fork u) = codes "fork " ++ decimal u.0
kind_text (Join u) = codes "join " ++ decimal u.0
kind_text Exit = codes "exit"

-- the line of an event, with its newline
unfoldable pub event_line : Event → List ℕ
event_line e = decimal e.thread.0 ++ (codes " " ++ (kind_text e.kind ++ codes "\n"))

-- what the first line says: whether the version has shared operations, and the bounds. Version 1 has none, version 2 has
abbrev pub Head : Type 0
Head = Bool × Bounds

-- the first line, with its newline
unfoldable pub header_line : Head → List ℕ
header_line h = (if h.0 then codes "vlog 2 " else codes "vlog 1 ") ++ (decimal h.1.threads ++ (codes " " ++ (decimal h.1.variables ++ (codes " " ++ (decimal h.1.locks ++ codes "\n")))))

-- the lines of events, one after the other
abbrev pub event_lines : List Event → List ℕ
event_lines events = flat_map event_line events

-- the text of bounds and events in a version, and the one that is written
abbrev pub text_in : Bool → Bounds → List Event → List ℕ
text_in shares bounds events = header_line (shares, bounds) ++ event_lines events

abbrev pub log_text : Bounds → List Event → List ℕ
log_text bounds events = text_in true bounds events

-- ---- which bounds and events have a text

pub record AreBounds (b : Bounds) : Type 0 where
  pub some_thread : 1 ≤ b.threads
  pub few_threads : b.threads ≤ MAX_THREADS
  pub few_variables : b.variables ≤ 65535
  pub few_locks : b.locks ≤ MAX_LOCKS

-- its numbers are in their ranges
abbrev pub IsKind : Kind → Type 0
IsKind (Read x v) = (x.0 ≤ 65535) × (v < 2 ^ 64)
IsKind (Write x v) = (x.0 ≤ 65535) × (v < 2 ^ 64)
IsKind (Acquire m) = m.0 ≤ 65535
IsKind (Release m) = m.0 ≤ 65535
IsKind (AcquireShared m) = m.0 ≤ 65535
IsKind (ReleaseShared m) = m.0 ≤ 65535
IsKind (Begin l) = l.0 < 2 ^ 32
IsKind End = Unit {0}
IsKind (Fork u) = u.0 ≤ 255
IsKind (Join u) = u.0 ≤ 255
IsKind Exit = Unit {0}

pub record IsEvent (e : Event) : Type 0 where
  pub thread : e.thread.0 ≤ 255
  pub kind : IsKind e.kind

abbrev pub AreEvents : List Event → Type 0
AreEvents events = AllByRecursion IsEvent events

-- the version has the operation
abbrev pub has_kind : Bool → Kind → Bool
has_kind shares k = shares || not (is_some (shared_lock_of k))

pub record IsEventIn (shares : Bool) (e : Event) : Type 0 where
  pub fits : IsEvent e
  pub known : IsTrue (has_kind shares e.kind)

abbrev pub AreEventsIn : Bool → List Event → Type 0
AreEventsIn shares events = AllByRecursion (IsEventIn shares) events

-- the bytes begin with the lines of these bounds and events in a version, and go on with rest
pub record Begins (bytes : List ℕ) (shares : Bool) (bounds : Bounds) (events : List Event) (rest : List ℕ) : Type 0 where
  pub bounds_fit : AreBounds bounds
  pub events_fit : AreEventsIn shares events
  pub text : bytes ≡ text_in shares bounds events ++ rest

-- the bytes are the text of these bounds and events in a version
pub record IsTextIn (bytes : List ℕ) (shares : Bool) (bounds : Bounds) (events : List Event) : Type 0 where
  pub bounds_fit : AreBounds bounds
  pub events_fit : AreEventsIn shares events
  pub text : bytes ≡ text_in shares bounds events

-- in one of the two
pub record IsLogText (bytes : List ℕ) (bounds : Bounds) (events : List Event) : Type 0 where
  pub shares : Bool
  pub is_text : IsTextIn bytes shares bounds events
