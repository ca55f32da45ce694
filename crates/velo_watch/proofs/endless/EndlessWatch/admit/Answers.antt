use Rattle.velo_watch.proofs.endless.EndlessWatch.admit.Goals as goal

pub returns-in-None-clause-judges : goal.returns-in-None-clause-judges
returns-in-None-clause-judges c = λ log h at count. c.judge.ensures.judges log h count
