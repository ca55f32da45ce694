use Rattle.std.proofs.Common.{sym, ◌∙◌}
use Rattle.std.proofs.lemmas.Bool.{eqb-true}
use Rattle.velo_search.proofs.listing.is_note_of.Goals.{then-note-thread, else-note-thread}
use Rattle.velo_search.proofs.listing.is_note_of.Goals as goal

pub returns-then-is_same_kind : goal.returns-then-is_same_kind
returns-then-is_same_kind c = elim c.if-note-thread.branch [
  | then-note-thread w ↦ (
    λ h. record { thread = w.if-note-thread.true; kind = w.is_same_kind.ensures.0 (sym w.value-is ∙ c.if-is_same_kind.true); locks = c.is_same.ensures.0 h },
    λ note. c.is_same.ensures.1 note.locks,
  )
  | else-note-thread w ↦ absurd (w.if-note-thread.false (eqb-true c.args.note.now.thread c.args.thread (sym w.value-is ∙ c.if-is_same_kind.true)))
]
