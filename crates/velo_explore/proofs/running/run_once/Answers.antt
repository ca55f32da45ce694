use Rattle.velo_explore.proofs.OnRuns.{AlarmOf-answer, IsTriedBy-once, if_ok}
use Rattle.velo_explore.proofs.running.run_once.Goals as goal

pub returns-clause-tried : goal.returns-clause-tried
returns-clause-tried c = if_ok c.note-noted.result (λ after step. IsTriedBy-once c.args.workload.now c.args.config _ (record {
  closed = c.in_ok-closed.closed;
  replays = c.in_ok-closed.ensures.run;
  memory = c.in_ok-closed.ensures.memory;
  alarm = AlarmOf-answer c.in_ok-closed.closed.log c.alarm.result c.alarm.ensures.none c.alarm.ensures.some;
}) c.args.tally after step) c.note-noted.ensures.comes_to
