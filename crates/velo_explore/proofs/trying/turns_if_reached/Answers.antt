use Rattle.velo_explore.proofs.OnShrunk.{misses-none}
use Rattle.velo_explore.proofs.trying.turns_if_reached.Goals as goal

pub returns-then-not-is_reached-clause-misses : goal.returns-then-not-is_reached-clause-misses
returns-then-not-is_reached-clause-misses c = λ n above within.
    misses-none c.is_reached.result n c.args.goal c.args.ending c.args.closed.now c.is_reached.ensures.reached c.if-not-is_reached.true within
