use Rattle.std.proofs.Common.{◌≡◌, ◌∙◌, [], ◌∷◌, ◌++◌, ap, sym, subst, refl}
use Rattle.std.specs.Prelude.{All}
use Rattle.std.proofs.lemmas.List.Elements.{All-nil, All-pop, All-push}
use Rattle.velo_worker.specs.declared.outcome.Outcome.TheVariants.{Done}
use Rattle.velo_worker.specs.Live.{HasDone, WorkerEnd}
use Rattle.velo_worker.proofs.living.seats_of.Goals as goal

IsDone : WorkerEnd → Type 0
IsDone worker = worker.outcome ≡ Done

pub loop-worker-init : goal.loop-worker-init
loop-worker-init c = λ done. (done, subst (All (HasDone c.args.workload.now)) (sym c.requires) (All-nil (HasDone c.args.workload.now)))

pub loop-worker-preserved : goal.loop-worker-preserved
unfolding IsDone
loop-worker-preserved c =
    λ done.
    let before = c.loop-worker.invariant done in
    let popped = All-pop IsDone c.loop-worker.ended.items c.pop.new.self.items c.pop.result c.pop.ensures.items before.0 in
    let now : c.in-Some.worker.outcome ≡ Done = rw c.in-Some.is at popped.1 in
    let whole : HasDone c.args.workload.now c.in-Some.worker.seat = c.if-not-is_whole.ensures refl now in
    let seats = c.push_reserved.ensures.items ∙ ap (λ xs. xs ++ c.worker.inside.seat ∷ []) c.reserve.ensures.items ∙ ap (λ (e : WorkerEnd). c.loop-worker.seats.items ++ e.seat ∷ []) c.worker.view_is in
    (popped.0, subst (All (HasDone c.args.workload.now)) (sym seats) (All-push (HasDone c.args.workload.now) c.loop-worker.seats.items c.in-Some.worker.seat before.1 whole))
