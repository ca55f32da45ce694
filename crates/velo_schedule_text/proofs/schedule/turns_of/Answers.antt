use Rattle.std.proofs.Common.{◌≡◌, ◌<◌, ◌≤◌, ◌∙◌, ap, sym, Err, length, get_or, lit<, false-eqb, arith}
use Rattle.std.proofs.lemmas.Iterator.Splits.{YieldsList-from_str_split}
use Rattle.std.proofs.lemmas.Iterator.Consumers.{YieldsList-turn, YieldsList-end}
use Rattle.std.proofs.lemmas.List.{take_all, length_push}
use Rattle.velo_schedule_text.specs.declared.schedule.ScheduleFault.{ScheduleFault}
use Rattle.velo_schedule_text.specs.declared.limits.TheConstants.{MAX_TURNS}
use Rattle.velo_schedule_text.specs.Words.{turns_in}
use Rattle.velo_schedule_text.proofs.OnTexts.{words_in, read_more, all_read, none_with, none_beyond, fault_by_cases}
use Rattle.velo_schedule_text.proofs.schedule.turns_of.Goals as goal
use Rattle.velo_schedule_text.proofs.schedule.turns_of.Goals.{In-Some}

not_empty : (c : In-Some) → 0 < length c.args.text.now
not_empty c =
    let other = false-eqb (length c.args.text.now) 0 (sym (sym c.is_empty.ensures ∙ c.if-is_empty.false)) in
    omega (arith, other)

-- the word of this turn, among the words of the text
word_at : (c : In-Some) → (length c.loop-word.yielded < length (words_in c.args.text.now)) × (c.in-Some.word.now ≡ get_or (words_in c.args.text.now) (length c.loop-word.yielded) c.in-Some.word.now)
word_at c =
    let all = YieldsList-from_str_split {s = c.into_iter-word-iterator.result} 32 c.args.text.now (lit< tt) (cc) (cc) (cc) in
    YieldsList-turn all c.loop-word.yielded _ c.loop-word.yielded_by _ _ c.in-Some.word c.in-Some.is c.next.ensures.steps

pub returns-in_default-clause-fault : goal.returns-in_default-clause-fault
returns-in_default-clause-fault c =
    let turn = (goal.at.returns-in_default-clause-fault c).In-Some in
    let word = word_at turn in
    none_with _ _ _ (not_empty turn) word.0 word.1 (sym c.in_default.is ∙ (c.turns_in.ensures ∙ ap turns_in c.as_bytes.ensures.value))

pub loop-word-preserved : goal.loop-word-preserved
loop-word-preserved c =
    let word = word_at (goal.at.loop-word-preserved c).In-Some in
    let few : length c.push.new.schedule.items ≤ MAX_TURNS = omega (arith, c.in-Ok.ensures.few, c.push.new.schedule.ok.0) in
    rw (length_push c.loop-word.yielded c.in-Some.word)
    (read_more _ _ _ _ _ _ c.loop-word.invariant word.0 word.1 (sym c.in-Some-turns_in.is ∙ (c.turns_in.ensures ∙ ap turns_in c.as_bytes.ensures.value)) c.in-Ok.ensures.pushed few)

pub returns-in-Err-clause-fault : goal.returns-in-Err-clause-fault
returns-in-Err-clause-fault c =
    let turn = (goal.at.returns-in-Err-clause-fault c).In-Some in
    let word = word_at turn in
    let says = sym c.in-Some-turns_in.is ∙ (c.turns_in.ensures ∙ ap turns_in c.as_bytes.ensures.value) in
    fault_by_cases c.args.text.now c.in-Err.fault
    (λ e. none_beyond _ _ _ _ _ (not_empty turn) c.loop-word.invariant word.0 word.1 says (omega (arith, c.push.ensures.full (c.in-Err.is ∙ ap (λ (f : ScheduleFault). Err f) e), c.loop-word.schedule.ok.0)))
    (λ e. c.push.ensures.memory (c.in-Err.is ∙ ap (λ (f : ScheduleFault). Err f) e))

pub returns-clause-schedule : goal.returns-clause-schedule
returns-clause-schedule c =
    let all = YieldsList-from_str_split {s = c.into_iter-word-iterator.result} 32 c.args.text.now (lit< tt) (cc) (cc) (cc) in
    let ended = YieldsList-end all c.loop-word.yielded _ c.loop-word.yielded_by _ _ c.in-None.is c.next.ensures.steps in
    all_read _ _ _ c.loop-word.invariant (take_all (length c.loop-word.yielded) (words_in c.args.text.now) (omega (arith, ended.1)))
