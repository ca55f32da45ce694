use Rattle.std.proofs.Common.{◌≡◌, Option, None, Some, refl, sym, ◌∙◌}
use Rattle.std.specs.Prelude.{IsTrue, is_some}
use Rattle.std.proofs.lemmas.Result.{err_from_is_err_and}
use Rattle.velo_world.specs.declared.analysis.Alarm.{Alarm}
use Rattle.velo_world.proofs.OnAlarms.{AlarmOf-stays}
use Rattle.velo_world.proofs.OnLogReplays.{flaw-by}
use Rattle.velo_world.proofs.recorded_world.RecordedRun.follow.Goals as goal

some_alarm : (alarm : Option Alarm) → ¬ (alarm ≡ None) → IsTrue (is_some alarm)
some_alarm None some = absurd (some refl)
some_alarm (Some a) some = refl

pub returns-in_err-judge-clause-fault : goal.returns-in_err-judge-clause-fault
returns-in_err-judge-clause-fault c =
    let failed = err_from_is_err_and c.from_residual.result c.from_residual.ensures.1 in
    rw (failed.1, failed.2) (c.in_err-judge.ensures.fault _ c.requires.stands.entered.heap c.len.ensures)

pub append-requires-clause-stands : goal.append-requires-clause-stands
append-requires-clause-stands c = rw c.reserve_one.ensures.events c.requires.stands.entered

pub append-requires-clause-flawless : goal.append-requires-clause-flawless
append-requires-clause-flawless c =
    rw c.reserve_one.ensures.events (flaw-by _ _ _ _ c.requires.stands.entered.bounds (c.in_ok-judge.ensures.flawless _ c.requires.stands.entered.heap))

pub append-requires-clause-short : goal.append-requires-clause-short
append-requires-clause-short c = rw (c.reserve_one.ensures.events, ← c.len.ensures) c.in_ok-judge.ensures.short

pub returns-in-Ok-clause-stands : goal.returns-in-Ok-clause-stands
returns-in-Ok-clause-stands c =
    let before = c.args.self.now in
    record {
      entered = c.append.ensures.stands;
      alarm = rw (c.append.ensures.alarm, c.append.ensures.log, c.reserve_one.ensures.events) (AlarmOf-stays before.log.events c.args.event.now before.alarm (some_alarm before.alarm c.requires.alarmed) c.requires.stands.alarm);
      watched = λ none. absurd (c.requires.alarmed (sym c.append.ensures.alarm ∙ none));
    }

pub returns-in-Err-clause-stands : goal.returns-in-Err-clause-stands
returns-in-Err-clause-stands c = record {
  entered = rw c.reserve_one.ensures.events c.requires.stands.entered;
  alarm = rw c.reserve_one.ensures.events c.requires.stands.alarm;
  watched = λ none. absurd (c.requires.alarmed none);
}
