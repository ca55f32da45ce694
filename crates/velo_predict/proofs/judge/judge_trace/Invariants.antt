use Rattle.std.proofs.Common.{take}
use Rattle.velo_predict.specs.Courses.{IsJudged}
use Rattle.velo_predict.proofs.judge.judge_trace.Given as goal

abbrev pub invariant-loop-position : goal.invariant-loop-position
invariant-loop-position l = record { stands : IsJudged l.config.bounds l.log.events (take l.position l.events) l.judged }
