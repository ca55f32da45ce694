use Rattle.std.proofs.Common.{refl}
use Rattle.velo_filter.specs.Tables.{marked}
use Rattle.velo_thinning.proofs.OnLeaving.{left-stays, left-goes}
use Rattle.velo_thinning.proofs.leaving.take_in.Goals as goal
use Rattle.velo_thinning.proofs.leaving.take_in.Goals.{then-not-marks-position+in_ok-push, else-not-marks-position}

pub returns : goal.returns
returns c =
    let goes = marked c.args.marks.now in let log = c.args.events.now in let n = c.args.position in
    elim c.if-not-marks-position.branch [
      | then-not-marks-position+in_ok-push w ↦
          rw w.left-is (left-stays goes log n c.args.left.now w.push.new.left c.requires.stands c.requires.within w.if-not-marks-position.true w.in_ok-push.ensures.events w.in_ok-push.ensures.places)
      | else-not-marks-position w ↦
          rw w.left-is (left-goes goes log n c.args.left.now c.args.left.now c.requires.stands w.if-not-marks-position.false refl refl)
    ]
