use Rattle.std.proofs.Common.{sym, subst}
use Rattle.velo_filter.specs.Tables.{left_of}
use Rattle.velo_audit.specs.Cut.{EndsAt}
use Rattle.velo_audit.proofs.OnAnswers.{if_ok}
use Rattle.velo_audit.proofs.pieces.judged.Goals as goal

pub judged_by-judged-requires : goal.judged_by-judged-requires
judged_by-judged-requires c = (
  left_of c.args.left.now,
  c.requires.cut,
  subst (λ places. EndsAt (left_of c.args.left.now) c.args.log.now.events c.args.cut.now c.args.piece.end.place c.args.piece.end.marks.items c.in-Ok.closed.log places) (sym c.deref.ensures.value)
      (subst (λ es. EndsAt (left_of c.args.left.now) c.args.log.now.events c.args.cut.now c.args.piece.end.place c.args.piece.end.marks.items es c.args.piece.thinned.places.items) (sym c.in-Ok.ensures.log) c.requires.piece),
)

pub returns-in-Ok-clause-judges : goal.returns-in-Ok-clause-judges
returns-in-Ok-clause-judges c = if_ok c.judged_by-judged.result
    (λ judged h. h (left_of c.args.left.now) c.requires.cut
    (subst (λ places. EndsAt (left_of c.args.left.now) c.args.log.now.events c.args.cut.now c.args.piece.end.place c.args.piece.end.marks.items c.in-Ok.closed.log places) (sym c.deref.ensures.value)
    (subst (λ es. EndsAt (left_of c.args.left.now) c.args.log.now.events c.args.cut.now c.args.piece.end.place c.args.piece.end.marks.items es c.args.piece.thinned.places.items) (sym c.in-Ok.ensures.log) c.requires.piece)))
    c.judged_by-judged.ensures.judges

pub returns-in-Err-Memory-clause-memory : goal.returns-in-Err-Memory-clause-memory
returns-in-Err-Memory-clause-memory c = rw c.in-Err-Memory.field-0-is at c.in-Err-Memory.ensures.fault
