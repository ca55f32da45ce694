use Rattle.std.proofs.Common.{ℕ, ◌<◌, slice_index_or}
use Rattle.velo_search.specs.declared.note.Note.{Note}
use Rattle.velo_search.specs.Notes.{IsNoteOf}
use Rattle.velo_search.proofs.listing.is_among.Given as goal

abbrev pub invariant-loop-place : goal.invariant-loop-place
invariant-loop-place l = (n : ℕ) (d : Note) → n < l.place → ¬ IsNoteOf l.fn.thread l.fn.kind l.fn.held.locks.items (slice_index_or l.fn.list n d)
