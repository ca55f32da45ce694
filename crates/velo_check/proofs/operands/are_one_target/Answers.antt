use Rattle.velo_check.proofs.operands.are_one_target.Goals as goal

pub returns-in-Some-Some : goal.returns-in-Some-Some
returns-in-Some-Some g c = rw (c.in-Some-Some.is-0, c.in-Some-Some.is-1) c.are_one.ensures
