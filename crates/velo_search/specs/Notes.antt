-- The operations that may hinder others, as they are noted.
use Rattle.std.specs.Prelude.{◌≡◌, ℕ, ◌+◌, ◌*◌, ◌%◌, Bool, false, not, ◌&&◌, ◌||◌, ◌==◌, List, [], take, map, slice_get, slice_index_or, Some, Contains}
use Rattle.std.specs.List.{list_all}
use Rattle.velo_events.specs.declared.event.Access.{Access}
use Rattle.velo_events.specs.declared.event.Access.TheVariants.{Shared, Exclusive, Nothing}
use Rattle.velo_events.specs.declared.event.Kind.{Kind}
use Rattle.velo_events.specs.Event.{access_of}
use Rattle.velo_movers.specs.Free.{are_rivals, are_twins, is_private}
use Rattle.velo_search.specs.declared.hold.Hold.{Hold}
use Rattle.velo_search.specs.declared.note.Note.{Note}
use Rattle.velo_search.specs.declared.notes.Notes.{Notes}
use Rattle.velo_search.specs.declared.listing.TheConstants.{LISTS}
use Rattle.velo_search.specs.Free.{some_excluded, AreHeld}
use Rattle.velo_search.specs.Runs.{script_of}

-- ---- one note

-- what is noted hinders operation k of a thread that has the locks so: it is a rival and no lock
-- keeps the threads apart, or it is a twin
abbrev pub note_hinders : List Hold → Kind → Note → Bool
note_hinders mine k note =
    (are_rivals k note.kind && not (some_excluded mine note.held.locks.items)) || are_twins k note.kind

-- it is of thread t itself, or does not
abbrev pub is_harmless : List Hold → ℕ → Kind → Note → Bool
is_harmless mine t k note = (note.thread == t) || not (note_hinders mine k note)

-- it is of this operation of the thread, which has the locks so
pub record IsNoteOf (t : ℕ) (k : Kind) (held : List Hold) (note : Note) : Type 0 where
  pub thread : note.thread ≡ t
  pub kind : note.kind ≡ k
  pub locks : note.held.locks.items ≡ held

-- it is of an operation of thread t's script, with so many locks
pub record IsOfScript (locks t : ℕ) (script : List Kind) (note : Note) : Type 0 where
  pub thread : note.thread ≡ t
  pub place : ℕ
  pub due : slice_get script place ≡ Some note.kind
  pub held : AreHeld locks (take place script) note.held.locks.items

-- ---- a list of notes

-- it has the operation of the thread, which has the locks so
pub record IsAmong (list : List Note) (t : ℕ) (k : Kind) (held : List Hold) : Type 0 where
  pub note : Note
  pub there : Contains list note
  pub is : IsNoteOf t k held note

-- it has the operation of the thread, which comes behind these
pub record IsNoted (list : List Note) (locks t : ℕ) (before : List Kind) (k : Kind) : Type 0 where
  pub note : Note
  pub there : Contains list note
  pub thread : note.thread ≡ t
  pub kind : note.kind ≡ k
  pub held : AreHeld locks before note.held.locks.items

-- ---- all of them

abbrev pub target_of : Access → ℕ
target_of (Shared c) = 2 * c.0
target_of (Exclusive c) = 2 * c.0
target_of (Access.Fork u) = 2 * u.0 + 1
target_of (Access.Join u) = 2 * u.0 + 1
target_of Nothing = 1

-- in which list an operation is
abbrev pub list_of : Kind → ℕ
list_of k = target_of (access_of k) % LISTS

abbrev pub list_at : Notes → ℕ → List Note
list_at notes n = slice_index_or (map (λ list. list.items) notes.lists.items) n []

-- all operations that may hinder others are noted, and nothing else is
pub record AreNoted (notes : Notes) (scripts : List (List Kind)) (locks : ℕ) : Type 0 where
  pub each : (u j : ℕ) (k : Kind) → slice_get (script_of scripts u) j ≡ Some k →
      is_private k ≡ false →
      IsNoted (list_at notes (list_of k)) locks u (take j (script_of scripts u)) k
  pub only : (n : ℕ) (note : Note) → Contains (list_at notes n) note →
      (u : ℕ) × IsOfScript locks u (script_of scripts u) note

-- no noted operation of another thread hinders operation k of thread t, which has the locks so
abbrev pub is_clear : Notes → List Hold → ℕ → Kind → Bool
is_clear notes held t k = is_private k || list_all (is_harmless held t k) (list_at notes (list_of k))

-- the mark says so of the operation, which comes behind these
pub record IsMarkOf (notes : Notes) (locks t : ℕ) (before : List Kind) (k : Kind) (mark : Bool) : Type 0 where
  pub mine : List Hold
  pub held : AreHeld locks before mine
  pub is : mark ≡ is_clear notes mine t k
