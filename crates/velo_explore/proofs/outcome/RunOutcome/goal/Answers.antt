use Rattle.velo_explore.proofs.outcome.RunOutcome.goal.Goals as goal

pub returns-in-Stuck : goal.returns-in-Stuck
returns-in-Stuck c = rw c.in-Stuck.is (c.stuck.ensures c.args.self.alarm)

pub returns-in-Refusing : goal.returns-in-Refusing
returns-in-Refusing c = rw c.in-Refusing.is (c.lasting_refusal.ensures c.args.self.alarm)
