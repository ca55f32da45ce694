use Rattle.std.proofs.Common.{List, subst, sym}
use Rattle.velo_events.specs.declared.config.Config.{Config}
use Rattle.velo_events.specs.declared.event.Event.{Event}
use Rattle.velo_world.specs.declared.log_replay.LogReplayFault.{LogReplayFault}
use Rattle.velo_world.specs.declared.log_replay.LogReplayFault.TheVariants.{Refused, WrongValue, Memory}
use Rattle.velo_world.specs.Faults as world
use Rattle.velo_check.specs.Faults.{check_fault_of, IsFaultOfLog}
use Rattle.velo_check.proofs.input.do_log.Goals as goal

same_fault : (config : Config) (log : List Event) (fault : LogReplayFault) → world.IsFaultOfLog config log fault → IsFaultOfLog config log (check_fault_of fault)
same_fault config log (Refused p refusal) h = h
same_fault config log (WrongValue p) h = h
same_fault config log Memory h = h

pub returns-in-Err-clause-err : goal.returns-in-Err-clause-err
returns-in-Err-clause-err c =
    subst (IsFaultOfLog c.args.config c.args.log.events) (sym c.fault_of.ensures) (same_fault c.args.config c.args.log.events _ c.in-Err.ensures.fault)
