use Rattle.std.proofs.Common.{◌+◌, take, length-take, sym, subst, arith}
use Rattle.std.proofs.lemmas.Option.{slice_get-get_or}
use Rattle.std.proofs.lemmas.Result.{err_from_is_err_and}
use Rattle.velo_events.proofs.OnScans.{take-next}
use Rattle.velo_world.specs.LogReplay.{IsLogReplayOf}
use Rattle.velo_world.proofs.OnAlarms.{length-before}
use Rattle.velo_world.proofs.OnLogReplays.{fault_in_log, flaw-by, well_formed-by}
use Rattle.velo_world.proofs.log_replay.LogReplay.follow.Goals as goal

pub returns-in_err-judge-clause-fault : goal.returns-in_err-judge-clause-fault
returns-in_err-judge-clause-fault c =
    let stands = c.requires.stands in
    let here = slice_get-get_or c.args.events.now c.args.position _ c.requires.within in
    let before = length-before c.args.events.now c.args.position _ here in
    let failed = err_from_is_err_and c.from_residual.result c.from_residual.ensures.1 in
    rw (failed.1, failed.2) (fault_in_log c.args.config.now c.args.events.now c.args.position _ _ here (well_formed-by _ _ _ stands.bounds stands.heap.well_formed) stands.short (c.in_err-judge.ensures.fault _ stands.heap (sym before)))

pub enter-requires-clause-flawless : goal.enter-requires-clause-flawless
enter-requires-clause-flawless c = flaw-by _ _ _ _ c.requires.stands.bounds (c.in_ok-judge.ensures.flawless _ c.requires.stands.heap)

pub enter-requires-clause-short : goal.enter-requires-clause-short
enter-requires-clause-short c =
    let within = c.requires.within in
    let short = c.in_ok-judge.ensures.short in omega (arith, length-take c.args.position c.args.events.now, within, short)

pub returns-clause-stands : goal.returns-clause-stands
returns-clause-stands c =
    let next = take-next c.args.events.now c.args.position _ (slice_get-get_or c.args.events.now c.args.position _ c.requires.within) in
    subst (λ t. IsLogReplayOf c.args.config.now c.enter.new.self t 0) (sym next) c.enter.ensures.stands
