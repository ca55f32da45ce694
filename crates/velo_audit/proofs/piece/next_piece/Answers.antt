use Rattle.std.proofs.Common.{◌≡◌, ◌≤◌, ap, sym, subst, ◌∙◌, arith, length, refl}
use Rattle.velo_filter.specs.Marks.{AreMarks, IsShallow}
use Rattle.velo_filter.specs.Tables.{left_of}
use Rattle.velo_filter.proofs.OnThinned.{IsShallow-from}
use Rattle.velo_audit.proofs.OnCuts.{GoesTo-none}
use Rattle.velo_audit.proofs.piece.next_piece.Goals as goal

pub loop-position-init : goal.loop-position-init
loop-position-init c = record {
  end = c.in_ok-piece.ensures.end;
  goes = GoesTo-none (left_of c.args.left.now) c.as_slice-events.result.now c.args.cut.now.place c.args.cut.now.place c.args.cut.now.prologue.events _ _ refl c.in_ok-piece.ensures.events c.in_ok-piece.ensures.places;
  many = ap length c.in_ok-piece.ensures.marks ∙ c.requires.cut.as_many;
  marks = subst (AreMarks (left_of c.args.left.now) c.as_slice-events.result.now c.args.cut.now.place) (sym c.in_ok-piece.ensures.marks)
      (subst (λ es. AreMarks (left_of c.args.left.now) es c.args.cut.now.place c.args.cut.now.marks.items) (sym c.as_slice-events.ensures) c.requires.cut.marks);
}

pub take_in-requires-clause-shallow : goal.take_in-requires-clause-shallow
take_in-requires-clause-shallow c = subst IsShallow (sym c.as_slice-events.ensures) (IsShallow-from c.args.log.now.events c.requires.can_come_about)

pub take_in-requires-clause-few : goal.take_in-requires-clause-few
take_in-requires-clause-few c = omega (arith, c.requires.few, ap length c.as_slice-events.ensures)
