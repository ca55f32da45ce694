use Rattle.std.proofs.Common.{◌≤◌, length, arith}
use Rattle.velo_events.specs.declared.limits.TheConstants.{MAX_EVENTS}
use Rattle.velo_watch.proofs.OnPieces.{alarm_lies, judged_none, judged_some}
use Rattle.velo_watch.proofs.piece.LogPiece.alarm.Goals as goal

pub moved-requires-clause-behind : goal.moved-requires-clause-behind
moved-requires-clause-behind c =
    let w = c.args.self.now.world in
    let few : length w.log ≤ MAX_EVENTS = let limit = c.log.ensures.limit in let most = w.config.few_events in omega (arith, limit, most) in
    alarm_lies w.log c.args.self.now.prologue c.in-Some.alarm.now c.requires.prologue few c.in-Some.ensures.some

pub returns-in-None-clause-alarm : goal.returns-in-None-clause-alarm
returns-in-None-clause-alarm c = λ whole k. judged_none whole c.args.self.now c.in-None.ensures.none k

pub returns-in-Ok-clause-alarm : goal.returns-in-Ok-clause-alarm
returns-in-Ok-clause-alarm c = λ whole k. judged_some whole c.args.self.now c.in-Some.alarm.now c.in-Ok.moved c.in-Some.ensures.some c.in-Ok.ensures k
