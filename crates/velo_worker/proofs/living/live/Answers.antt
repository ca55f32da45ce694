use Rattle.std.proofs.Common.{◌∙◌, subst, sym}
use Rattle.std.proofs.lemmas.Result.{IfOk-weaker}
use Rattle.velo_worker.specs.Live.{AllDone}
use Rattle.velo_worker.proofs.living.live.Goals as goal

pub returns-clause-done : goal.returns-clause-done
returns-clause-done g c =
    IfOk-weaker c.retraced.result _ _ (λ run same done. subst (AllDone c.args.workload.now) (sym same.0) (c.in_ok-closed.ensures.done (sym same.1 ∙ done))) c.retraced.ensures.same
