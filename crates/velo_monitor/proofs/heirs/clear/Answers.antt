use Rattle.std.proofs.Common.{ℕ, Option, None, length, get_or, set, ◌∙◌, ap, ⊎_elim, arith, get_or-set_same, get_or-set_other}
use Rattle.std.proofs.lemmas.Bool.{cases_eq, cases_lt}
use Rattle.std.proofs.lemmas.List.{get_or_past}
use Rattle.velo_monitor.proofs.heirs.clear.Goals as goal

pub loop-k-preserved : goal.loop-k-preserved
loop-k-preserved c =
    let list = c.loop-k.list in
    let k = c.loop-k.k in
    λ i l. ⊎_elim
    (λ here. ap (λ j. get_or {A = Option ℕ} (set list k None) j None) here ∙ get_or-set_same {A = Option ℕ} list k None None (omega (arith, c.loop-k-test.true, c.loop-k.auto.list)))
    (λ other. get_or-set_other {A = Option ℕ} list k i None None other ∙ c.loop-k.invariant i (omega (arith, l, other)))
    (cases_eq i k)

pub returns-clause-none : goal.returns-clause-none
returns-clause-none c = λ i.
    ⊎_elim (λ l. c.loop-k.invariant i (omega (arith, l, c.loop-k-test.false))) (λ g. get_or_past c.loop-k.list i None (omega (arith, g, c.loop-k.auto.list))) (cases_lt i (length c.args.list.now))
