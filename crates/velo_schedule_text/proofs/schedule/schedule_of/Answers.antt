use Rattle.std.proofs.Common.{arith}
use Rattle.std.proofs.lemmas.Result.{IfErr-weaker, IfOk-weaker}
use Rattle.std.proofs.lemmas.Str.Pattern.{contains_char}
use Rattle.velo_schedule_text.proofs.OnNumbers.{none_with_star, starless, starless_fault, starless_schedule}
use Rattle.velo_schedule_text.proofs.schedule.schedule_of.Goals as goal

pub returns-then-contains-clause-fault : goal.returns-then-contains-clause-fault
returns-then-contains-clause-fault c =
    let at = (contains_char 42 c.args.text.now c.contains.result c.contains.ensures.cases (omega arith)).0 c.if-contains.true in
    none_with_star c.args.text.now at.0 at.1 at.2

pub returns-clause-schedule : goal.returns-clause-schedule
returns-clause-schedule c =
    let apart = starless c.args.text.now c.contains.result (contains_char 42 c.args.text.now c.contains.result c.contains.ensures.cases (omega arith)).1 c.if-contains.false in
    IfOk-weaker c.turns_of.result _ _ (λ schedule. starless_schedule c.args.text.now schedule.items apart) c.turns_of.ensures.schedule

pub returns-clause-fault : goal.returns-clause-fault
returns-clause-fault c = IfErr-weaker c.turns_of.result _ _ (λ fault. starless_fault c.args.text.now fault) c.turns_of.ensures.fault
