use Rattle.std.proofs.Common.{◌≡◌, ℕ, ◌<◌, ◌⊎◌, false, take, Some}
use Rattle.std.specs.Prelude.{slice_get, Contains}
use Rattle.velo_events.specs.declared.event.Kind.{Kind}
use Rattle.velo_movers.specs.Free.{is_private}
use Rattle.velo_search.specs.declared.note.Note.{Note}
use Rattle.velo_search.specs.Free.{AreHeld}
use Rattle.velo_search.specs.Notes.{list_at, list_of, IsNoted, IsOfScript}
use Rattle.velo_search.proofs.notes.Notes.note_script.Given as goal

abbrev pub invariant-loop-place : goal.invariant-loop-place
invariant-loop-place l = record {
  before : (n : ℕ) (note : Note) → Contains (list_at l.fn.self n) note → Contains (list_at l.self n) note;
  there : (i : ℕ) (k : Kind) → i < l.place → slice_get l.fn.script i ≡ Some k → is_private k ≡ false → IsNoted (list_at l.self (list_of k)) l.fn.locks l.fn.thread (take i l.fn.script) k;
  only : (n : ℕ) (note : Note) → Contains (list_at l.self n) note → Contains (list_at l.fn.self n) note ⊎ IsOfScript l.fn.locks l.fn.thread l.fn.script note;
  held : AreHeld l.fn.locks (take l.place l.fn.script) l.held.locks.items;
}
