use Rattle.std.proofs.Common.{◌≡◌, ℕ, Bool, length, take, Some}
use Rattle.std.specs.Prelude.{slice_get}
use Rattle.velo_events.specs.declared.event.Kind.{Kind}
use Rattle.velo_search.specs.Free.{AreHeld}
use Rattle.velo_search.specs.Notes.{IsMarkOf}
use Rattle.velo_search.proofs.free.clear_ones.Given as goal

abbrev pub invariant-loop-place : goal.invariant-loop-place
invariant-loop-place l = record {
  count : length l.clear.items ≡ l.place;
  held : AreHeld l.fn.locks (take l.place l.fn.script) l.held.locks.items;
  clear : (i : ℕ) (k : Kind) (mark : Bool) → slice_get l.fn.script i ≡ Some k → slice_get l.clear.items i ≡ Some mark → IsMarkOf l.fn.notes l.fn.locks l.fn.thread (take i l.fn.script) k mark;
}
