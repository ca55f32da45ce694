use Rattle.std.proofs.Common.{◌≡◌, ◌<◌, ◌∙◌, length, sym, subst, arith}
use Rattle.std.specs.Prelude.{slice_index}
use Rattle.velo_certify.specs.Threads.{IsNextSoFar}
use Rattle.velo_certify.proofs.OnThreads.{front-candidate, IsNext-by_fronts}
use Rattle.velo_certify.proofs.serial.next_ready.Goals as goal

pub with_front-next-requires-clause-candidate : goal.with_front-next-requires-clause-candidate
with_front-next-requires-clause-candidate c = front-candidate c.args.events.now c.args.listed.now c.args.fronts.now c.requires.fronts c.loop-t.t c.loop-t-test.true c.if-a-events.true

pub returns-clause-next : goal.returns-clause-next
returns-clause-next c =
    let all : c.loop-t.t ≡ length c.args.fronts.now = omega arith in
    IsNext-by_fronts c.args.events.now c.args.listed.now c.args.fronts.now c.requires.fronts c.loop-t.next
    (subst (λ n. IsNextSoFar c.args.events.now c.args.listed.now c.args.fronts.now n c.loop-t.next) all c.loop-t.invariant.next)

pub with_front-next-requires-clause-front : goal.with_front-next-requires-clause-front
with_front-next-requires-clause-front c =
    let fronts = c.args.fronts.now in
    let here = c.requires.fronts.own c.loop-t.t c.loop-t-test.true c.if-a-events.true in
    record {
      passed = λ i before same. c.requires.fronts.passed i (omega (arith, before, c.if-a-events.true)) (subst (λ u. i < slice_index fronts u) (sym (same ∙ here)) before);
    }
