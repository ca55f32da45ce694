use Rattle.std.proofs.Common.{sym, ◌∙◌, refl}
use Rattle.velo_filter.specs.Tables.{left_of}
use Rattle.velo_audit.proofs.OnCuts.{GoesTo-stays, GoesTo-goes}
use Rattle.velo_audit.proofs.piece.take_in.Goals as goal
use Rattle.velo_audit.proofs.piece.take_in.Goals.{then-stays_at+in_ok-push, else-stays_at}

pub returns-clause-goes : goal.returns-clause-goes
returns-clause-goes c place prologue goes =
    let left = left_of c.args.left.now in let log = c.args.events.now in let n = c.args.position in
    elim c.if-stays_at.branch [
      | then-stays_at+in_ok-push w ↦
          rw w.piece-is (GoesTo-stays left log place n prologue _ _ c.requires.within goes (sym c.stays_at.ensures.stays ∙ w.if-stays_at.true) _ _ w.in_ok-push.ensures.events w.in_ok-push.ensures.places)
      | else-stays_at w ↦
          rw w.piece-is (GoesTo-goes left log place n prologue _ _ c.requires.within goes (sym c.stays_at.ensures.stays ∙ w.if-stays_at.false) _ _ refl refl)
    ]
