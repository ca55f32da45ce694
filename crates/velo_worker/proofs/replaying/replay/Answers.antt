use Rattle.std.proofs.Common.{subst}
use Rattle.velo_worker.specs.Schedule.{ReplaysTo}
use Rattle.velo_worker.proofs.OnCauses.{of_run}
use Rattle.velo_worker.proofs.replaying.replay.Goals as goal

pub returns-clause-replays : goal.returns-clause-replays
returns-clause-replays c = record {
  last = c.take_all_turns-ending.new.state;
  runs = subst (λ opened. ReplaysTo opened c.args.schedule.now c.take_all_turns-ending.result c.take_all_turns-ending.new.state) c.in_ok-state.ensures c.take_all_turns-ending.ensures;
  world = c.close.ensures;
}

pub returns-clause-cause : goal.returns-clause-cause
returns-clause-cause c = of_run c.in_ok-state.state c.args.schedule.now c.take_all_turns-ending.result c.take_all_turns-ending.new.state c.take_all_turns-ending.ensures
