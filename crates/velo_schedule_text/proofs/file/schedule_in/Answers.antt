use Rattle.std.proofs.Common.{arith}
use Rattle.std.proofs.lemmas.Result.{IfErr-weaker, IfOk-weaker}
use Rattle.velo_schedule_text.proofs.OnFile.{found_in, none_in, schedule_bytes, schedule_utf8}
use Rattle.velo_schedule_text.proofs.file.schedule_in.Goals as goal

pub returns-then-bytes-gt-MAX_SCHEDULE_BYTES-clause-fault : goal.returns-then-bytes-gt-MAX_SCHEDULE_BYTES-clause-fault
returns-then-bytes-gt-MAX_SCHEDULE_BYTES-clause-fault c = λ schedule says.
    let few = schedule_bytes _ schedule says in
    omega (arith, few, c.if-bytes-gt-MAX_SCHEDULE_BYTES.true)

pub returns-in-Ok-clause-schedule : goal.returns-in-Ok-clause-schedule
returns-in-Ok-clause-schedule c =
    IfOk-weaker c.turns_of.result _ _ (λ schedule. found_in _ _ _ schedule.items c.in-Ok.ensures.cases.0 c.without_newline.ensures) c.turns_of.ensures.schedule

pub returns-in-Ok-clause-fault : goal.returns-in-Ok-clause-fault
returns-in-Ok-clause-fault c =
    IfErr-weaker c.turns_of.result _ _ (λ fault. none_in _ _ _ fault c.in-Ok.ensures.cases.0 c.without_newline.ensures) c.turns_of.ensures.fault

pub returns-in-Err-clause-fault : goal.returns-in-Err-clause-fault
returns-in-Err-clause-fault c = λ schedule says. c.in-Err.ensures.cases.0 (schedule_utf8 _ schedule says)
