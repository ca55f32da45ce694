use Rattle.velo_check.proofs.check.show.Goals as goal

pub returns-in-Ok : goal.returns-in-Ok
returns-in-Ok g c = (c.verdict_of-verdict.ensures.verdict, c.in-Ok.ensures)

pub returns-in-Err : goal.returns-in-Err
returns-in-Err g c = ((c.verdict_of-verdict.result, c.verdict_of-verdict.ensures.verdict), c.in-Err.ensures)
