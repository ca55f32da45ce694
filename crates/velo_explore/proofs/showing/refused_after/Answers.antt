use Rattle.std.proofs.Common.{◌≡◌, ◌∙◌, ℕ, ◌++◌, ◌∷◌, [], List, sym, ap, subst, arith, ⊎_elim}
use Rattle.std.proofs.lemmas.Bool.{cases_lt}
use Rattle.velo_events.specs.declared.config.Bounds.{Bounds}
use Rattle.velo_events.specs.declared.event.ThreadId.{ThreadId}
use Rattle.velo_filter.specs.Left.{rest_of}
use Rattle.velo_filter.specs.Tables.{left_of}
use Rattle.velo_search.specs.declared.fault.Fault.TheVariants.{Refusing}
use Rattle.velo_explore.specs.Told.{LacksFault}
use Rattle.velo_explore.proofs.OnShown.{at_is_none, found-one_more}
use Rattle.velo_explore.proofs.showing.refused_after.Goals as goal

pub loop-thread-preserved : goal.loop-thread-preserved
loop-thread-preserved c = λ t l.
    let program = c.args.workload.now in
    let none = at_is_none c.in_ok-found.found (sym c.is_some.ensures ∙ c.if-is_some.false) c.in_ok-found.ensures.none in
    ⊎_elim
    (λ before. c.loop-thread.invariant t before)
    (λ past. subst (λ (k : ℕ). LacksFault (rest_of (left_of c.args.left.now)) program c.args.config Refusing (c.args.schedule.now ++ record { 0 = k } ∷ [])) (let same : c.loop-thread.thread ≡ t = omega (arith, past, l) in same)
    (subst (λ (turns : List ThreadId). LacksFault (rest_of (left_of c.args.left.now)) program c.args.config Refusing turns) c.in_ok-longer.ensures none))
    (cases_lt t c.loop-thread.thread)

pub returns-then-is_some-clause-one_more : goal.returns-then-is_some-clause-one_more
returns-then-is_some-clause-one_more c = found-one_more c.in_ok-found.found c.args.schedule.now c.in_ok-longer.longer.items _ c.in_ok-longer.ensures c.in_ok-found.ensures.by

pub returns-clause-none : goal.returns-clause-none
returns-clause-none c = λ t l.
    let threads = ap (λ (b : Bounds). b.threads) c.bounds-thread-end.ensures.bounds in
    let all : c.loop-thread.thread ≡ c.args.workload.now.bounds.threads = omega (arith, c.loop-thread-test.false, c.loop-thread.auto.thread-end, threads) in
    c.loop-thread.invariant t (omega (arith, l, all))
