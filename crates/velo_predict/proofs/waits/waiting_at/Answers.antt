use Rattle.std.proofs.Common.{◌≡◌, Some, arith}
use Rattle.std.specs.Prelude.{slice_get}
use Rattle.std.proofs.lemmas.Grind.{common_steps}
use Rattle.velo_predict.proofs.OnFollowing.{item_at}
use Rattle.velo_predict.proofs.waits.waiting_at.Goals as goal

pub due_of-requires : goal.due_of-requires
due_of-requires c =
    let here : slice_get c.args.judged.now.courses.items c.args.t ≡ Some c.index-course.result.now = item_at c.args.judged.now.courses.items c.args.t c.index-course.result.now c.requires.known (grind (arith, common_steps)) in
    (c.requires.next.1.courses c.index-course.result.now here).within

pub unreachable-requires : goal.unreachable-requires
unreachable-requires c =
    let here : slice_get c.args.judged.now.courses.items c.args.t ≡ Some c.index-course.result.now = item_at c.args.judged.now.courses.items c.args.t c.index-course.result.now c.requires.known (grind (arith, common_steps)) in
    c.in-None.ensures.due c.requires.next.0 (c.requires.next.1.courses c.index-course.result.now here) c.requires.next.1.next.0 c.requires.next.1.next.1

pub returns-clause-due : goal.returns-clause-due
returns-clause-due c = λ trace has.
    let here : slice_get c.args.judged.now.courses.items c.args.t ≡ Some c.index-course.result.now = item_at c.args.judged.now.courses.items c.args.t c.index-course.result.now c.requires.known (grind (arith, common_steps)) in
    c.in-Some.ensures.due trace (has.courses c.index-course.result.now here)
