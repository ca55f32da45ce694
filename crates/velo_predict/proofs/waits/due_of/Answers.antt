use Rattle.std.proofs.Common.{◌≡◌, Some, get_or}
use Rattle.std.specs.Prelude.{slice_get}
use Rattle.std.proofs.lemmas.Option.{slice_get-get_or}
use Rattle.velo_traces.proofs.Past.{past}
use Rattle.velo_predict.proofs.OnWaits.{due-from_course, none_due-over, none_due-unsure}
use Rattle.velo_predict.proofs.waits.due_of.Goals as goal

pub returns-then-course-clause-due : goal.returns-then-course-clause-due
returns-then-course-clause-due c = λ trace stands. none_due-unsure c.args.log.now trace c.args.thread.0 c.args.course stands c.if-course.true

pub returns-then-next-log-clause-due : goal.returns-then-next-log-clause-due
returns-then-next-log-clause-due c = λ trace stands.
    let next = get_or c.args.log.now c.next_of-next.result past in
    let here : slice_get c.args.log.now c.next_of-next.result ≡ Some next = slice_get-get_or c.args.log.now c.next_of-next.result past c.if-next-log.true in
    due-from_course c.args.log.now trace c.args.thread.0 c.args.course c.next_of-next.result next stands c.if-course.false c.next_of-next.ensures.passed here (c.next_of-next.ensures.here next here)

pub returns-else-next-log-clause-due : goal.returns-else-next-log-clause-due
returns-else-next-log-clause-due c = λ trace stands. none_due-over c.args.log.now trace c.args.thread.0 c.args.course c.next_of-next.result stands c.if-course.false c.next_of-next.ensures.passed c.if-next-log.false
