use Rattle.std.proofs.Common.{◌≡◌, ℕ, ◌<◌, false, take, map, Some}
use Rattle.std.specs.Prelude.{slice_get, Contains}
use Rattle.velo_events.specs.declared.event.Kind.{Kind}
use Rattle.velo_movers.specs.Free.{is_private}
use Rattle.velo_search.specs.declared.note.Note.{Note}
use Rattle.velo_search.specs.Notes.{list_at, list_of, IsNoted, IsOfScript}
use Rattle.velo_search.specs.Runs.{script_of}
use Rattle.velo_search.proofs.notes.Notes.of_scripts.Given as goal

abbrev pub invariant-loop-thread : goal.invariant-loop-thread
invariant-loop-thread l = record {
  each : (u j : ℕ) (k : Kind) → u < l.thread → slice_get (script_of (map (λ v. v.items) l.fn.scripts) u) j ≡ Some k → is_private k ≡ false →
      IsNoted (list_at l.notes (list_of k)) l.fn.locks u (take j (script_of (map (λ v. v.items) l.fn.scripts) u)) k;
  only : (n : ℕ) (note : Note) → Contains (list_at l.notes n) note → (u : ℕ) × IsOfScript l.fn.locks u (script_of (map (λ v. v.items) l.fn.scripts) u) note;
}
