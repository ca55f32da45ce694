use Rattle.std.proofs.Common.{ℕ, ◌<◌, slice_index_or}
use Rattle.std.specs.Prelude.{IsTrue}
use Rattle.velo_search.specs.declared.note.Note.{Note}
use Rattle.velo_search.specs.Notes.{is_harmless}
use Rattle.velo_search.proofs.listing.is_clear.Given as goal

abbrev pub invariant-loop-place : goal.invariant-loop-place
invariant-loop-place l = (n : ℕ) (d : Note) → n < l.place → IsTrue (is_harmless l.fn.held.locks.items l.fn.thread l.fn.kind (slice_index_or l.fn.list n d))
