use Rattle.velo_explore.proofs.OnShrunk.{if_ok, reached}
use Rattle.velo_explore.proofs.trying.tried.Goals as goal

pub returns-clause-reached : goal.returns-clause-reached
returns-clause-reached c =
    reached c.args.workload.now c.args.config c.args.goal c.args.schedule.now c.in_ok-closed.ending c.in_ok-closed.closed c.in_ok-closed.ensures.run c.in_ok-closed.ensures.memory
    c.turns_if_reached-found.result c.turns_if_reached-found.ensures.known c.turns_if_reached-found.ensures.reaches

pub returns-clause-misses : goal.returns-clause-misses
returns-clause-misses c = if_ok c.turns_if_reached-found.result (λ found misses. λ n above. record {
  ending = c.in_ok-closed.ending;
  closed = c.in_ok-closed.closed;
  replays = c.in_ok-closed.ensures.run;
  misses = misses n above;
}) c.turns_if_reached-found.ensures.misses
