use Rattle.std.proofs.Common.{◌≡◌, ◌+◌, ◌-◌, ◌∙◌, false, not, length, ap, subst, arith, ⊎_elim}
use Rattle.std.proofs.lemmas.Bool.{cases_Bool, both_ways, false≢true}
use Rattle.velo_certify.specs.Levels.{level_numbers, IsPassed}
use Rattle.velo_certify.proofs.OnNumbered.{HasNumbers-last}
use Rattle.velo_certify.proofs.OnLevels.{IsPassed-start, on_level-before, IsSearched-next, AreShortest-no_more, AreShortest-by}
use Rattle.velo_certify.proofs.distances.reach_level.Goals as goal

pub loop-at-init : goal.loop-at-init
loop-at-init c =
    let trace = c.args.events.now in let level = c.args.level in
    record {
      within = omega arith;
      sizes = c.clear.ensures.sizes;
      numbers = HasNumbers-last trace (level_numbers trace c.args.reached.now.distance.items level) c.clear.new.self c.clear.ensures.blank;
      passed = IsPassed-start trace level (length trace) c.args.reached.now (omega arith);
      closed = λ yes. absurd (false≢true yes);
    }

pub loop-at-preserved-then-pass : goal.loop-at-preserved-then-pass
loop-at-preserved-then-pass c =
    let trace = c.args.events.now in let level = c.args.level in let first = c.args.reached.now in let old = c.loop-at.reached in
    let more : c.loop-at.at ≡ c.loop-at.at - 1 + 1 = omega (arith, c.loop-at-test.true) in
    let passed = subst (λ n. IsPassed trace level n first old) more c.loop-at.invariant.passed in
    let low = c.requires.searched.top in
    record {
      within = let most = c.loop-at.invariant.within in omega (arith, most);
      sizes = c.pass.ensures.sizes ∙ c.loop-at.invariant.sizes;
      numbers = c.pass.ensures.numbers;
      passed = c.pass.ensures.passed first low passed;
      closed = λ _.
          let (next, edge, on) = c.pass.ensures.closes c.if-pass.true in
          (next, edge, on_level-before trace c.args.target level (c.loop-at.at - 1) first old old c.requires.positive low passed next on);
    }

pub returns-then-reached-before-clause-searched : goal.returns-then-reached-before-clause-searched
returns-then-reached-before-clause-searched c = IsSearched-next c.args.events.now c.args.target c.args.level c.args.reached.now c.loop-at.reached c.requires.positive c.requires.searched
    (subst (λ n. IsPassed c.args.events.now c.args.level n c.args.reached.now c.loop-at.reached) (let end : c.loop-at.at ≡ 0 = omega (arith, c.loop-at-test.false) in end) c.loop-at.invariant.passed)

pub returns-then-reached-before-clause-shortest : goal.returns-then-reached-before-clause-shortest
returns-then-reached-before-clause-shortest c = λ no.
    let closed = ⊎_elim (λ yes. yes) (λ (open_yet : c.loop-at.is_closed ≡ false). absurd (both_ways (not c.loop-at.is_closed) no (ap not open_yet))) (cases_Bool c.loop-at.is_closed) in
    let (next, edge, on) = c.loop-at.invariant.closed closed in
    AreShortest-by c.args.events.now c.args.target c.args.level c.args.reached.now c.loop-at.reached c.requires.positive c.requires.searched
    (subst (λ n. IsPassed c.args.events.now c.args.level n c.args.reached.now c.loop-at.reached) (let end : c.loop-at.at ≡ 0 = omega (arith, c.loop-at-test.false) in end) c.loop-at.invariant.passed)
    next edge on

pub returns-else-reached-before-clause-searched : goal.returns-else-reached-before-clause-searched
returns-else-reached-before-clause-searched c = IsSearched-next c.args.events.now c.args.target c.args.level c.args.reached.now c.loop-at.reached c.requires.positive c.requires.searched
    (subst (λ n. IsPassed c.args.events.now c.args.level n c.args.reached.now c.loop-at.reached) (let end : c.loop-at.at ≡ 0 = omega (arith, c.loop-at-test.false) in end) c.loop-at.invariant.passed)

pub returns-else-reached-before-clause-shortest : goal.returns-else-reached-before-clause-shortest
returns-else-reached-before-clause-shortest c = λ no.
    AreShortest-no_more c.args.events.now c.args.target c.args.level c.args.reached.now c.loop-at.reached c.requires.positive c.requires.searched
    (subst (λ n. IsPassed c.args.events.now c.args.level n c.args.reached.now c.loop-at.reached) (let end : c.loop-at.at ≡ 0 = omega (arith, c.loop-at-test.false) in end) c.loop-at.invariant.passed)
    (omega (arith, c.if-reached-before.false))
