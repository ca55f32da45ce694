use Rattle.std.proofs.Common.{sym, ◌∙◌, arith}
use Rattle.std.proofs.lemmas.Bool.{eqb-true, eqb-false}
use Rattle.velo_schedule_text.proofs.OnShort.{same_thread, front_more, first_stretch}
use Rattle.velo_schedule_text.proofs.short.first_turns.Goals as goal

pub loop-count-preserved : goal.loop-count-preserved
loop-count-preserved c =
    let same = eqb-true _ _ (sym c.eq.ensures ∙ c.if-eq.true) in
    front_more _ _ (record { 0 = 0 }) _ c.loop-count.invariant c.loop-count-test.true (same_thread _ _ (sym same))

pub returns-else-eq-clause-first : goal.returns-else-eq-clause-first
returns-else-eq-clause-first c =
    let other = eqb-false _ _ (sym c.eq.ensures ∙ c.if-eq.false) in
    first_stretch _ _ (record { 0 = 0 }) _ c.loop-count.invariant (λ lt e. other (sym e))

pub returns-after-loop-count-clause-first : goal.returns-after-loop-count-clause-first
returns-after-loop-count-clause-first c = first_stretch _ _ (record { 0 = 0 }) _ c.loop-count.invariant (λ lt. absurd (omega (arith, lt, c.loop-count-test.false)))
