use Rattle.std.proofs.Common.{◌≡◌, true, refl, sym, ◌∙◌, subst}
use Rattle.std.proofs.lemmas.Bool.{and_parts}
use Rattle.velo_search.specs.Trail.{NotesAlarm}
use Rattle.velo_search.proofs.OnTrails.{alarms-note, alarms-same, noted-unless}
use Rattle.velo_search.proofs.searching.note_closing.Goals as goal

pub returns-then-not-is_new-clause-alarms : goal.returns-then-not-is_new-clause-alarms
returns-then-not-is_new-clause-alarms c = λ bounds scripts rest r. alarms-same bounds scripts rest c.args.trail.now c.args.trail.now refl

pub returns-then-not-is_new-clause-noted : goal.returns-then-not-is_new-clause-noted
returns-then-not-is_new-clause-noted c =
    noted-unless c.args.trail.now c.args.after.now c.args.alarmed c.is_alarmed.result c.is_alarmed.ensures.value (sym c.is_new.ensures ∙ c.if-not-is_new.true)

pub returns-clause-alarms : goal.returns-clause-alarms
returns-clause-alarms c = λ bounds scripts rest r.
    let alarmed : c.is_alarmed.result ≡ true = (and_parts _ _ (sym c.is_new.ensures ∙ c.if-not-is_new.false)).0 in
    alarms-note bounds scripts rest c.args.trail.now c.note_alarm.new.self c.args.after.now r (sym c.is_alarmed.ensures.value ∙ alarmed)
    (subst (λ n. NotesAlarm c.args.trail.now n c.note_alarm.new.self) c.place.ensures c.in_ok-note_alarm.ensures.notes)

pub returns-clause-noted : goal.returns-clause-noted
returns-clause-noted c = λ was. record {
  some = λ first alarmed. c.in_ok-note_alarm.ensures.notes.some (sym c.in_ok-note_alarm.ensures.notes.first ∙ first);
}
