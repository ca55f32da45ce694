use Rattle.std.proofs.Common.{◌≡◌, ◌+◌, ◌∙◌, ap, sym, subst, Some}
use Rattle.std.specs.Prelude.{slice_get}
use Rattle.std.proofs.lemmas.Option.{slice_get-get_or}
use Rattle.velo_ledger.specs.Views.{Holding}
use Rattle.velo_worker.specs.Causes.{HasCause}
use Rattle.velo_worker.specs.Live.{WorkerEnd, lesser, met}
use Rattle.velo_worker.proofs.OnCauses.{of_lesser, of_met}
use Rattle.velo_worker.proofs.OnEndings.{IsLeastUpTo, Least-take, Least-end}
use Rattle.velo_worker.proofs.outcome.least_met.Goals as goal

pub loop-worker-preserved : goal.loop-worker-preserved
loop-worker-preserved c =
    let l = c.loop-worker in
    let ended = c.args.ended.now in
    let worker = c.worker-item.result in
    let refusal = c.in-Some.refusal in
    let here : slice_get ended l.worker-index ≡ Some worker = slice_get-get_or ended l.worker-index worker c.loop-worker-test.true ∙ ap Some (sym c.worker-item.is) in
    let met_it : met c.worker.inside.outcome ≡ Some refusal = sym c.met.ensures ∙ c.in-Some.is in
    let thread : c.thread.result ≡ worker.seat.thread = c.thread.ensures ∙ ap (λ (share : Holding). share.thread) c.share.ensures ∙ ap (λ (e : WorkerEnd). e.seat.thread) c.worker.view_is in
    let least : c.lesser.result ≡ lesser l.least worker.seat.thread refusal = c.lesser.ensures ∙ ap (λ t. lesser l.least t refusal) thread in
    record {
      least = subst (λ found. IsLeastUpTo ended (l.worker-index + 1) found.0 found.1) (sym least)
          (Least-take ended l.worker-index l.least worker refusal here (ap (λ (e : WorkerEnd). met e.outcome) (sym c.worker.view_is) ∙ met_it) l.invariant.least);
      cause = subst (λ found. HasCause found.1) (sym c.lesser.ensures) (of_lesser l.least c.thread.result refusal l.invariant.cause (of_met c.worker.inside.outcome refusal c.worker.invariant met_it));
    }

pub returns-clause-least : goal.returns-clause-least
returns-clause-least c = Least-end c.args.ended.now c.loop-worker.worker-index c.loop-worker.least c.loop-worker-test.false c.loop-worker.invariant.least

pub returns-clause-cause : goal.returns-clause-cause
returns-clause-cause c = c.loop-worker.invariant.cause
