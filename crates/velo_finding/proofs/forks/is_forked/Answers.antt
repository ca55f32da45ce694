use Rattle.std.proofs.Common.{◌∙◌, List, [], ap, sym, get_or}
use Rattle.std.specs.Prelude.{◌||◌}
use Rattle.std.specs.List.{list_any}
use Rattle.std.proofs.lemmas.List.Folds.{list_any_more, list_any_kept}
use Rattle.std.proofs.lemmas.Option.{slice_get_within, get_or_from_slice_get}
use Rattle.velo_workload.specs.declared.statement.Statement.{Statement}
use Rattle.velo_finding.specs.Forks.{forks}
use Rattle.velo_finding.proofs.forks.is_forked.Goals as goal
use Rattle.velo_finding.proofs.forks.is_forked.Goals.{then-forked, else-forked}

abbrev none : List Statement
none = []

pub loop-other-preserved : goal.loop-other-preserved
loop-other-preserved c =
    let xs = c.args.workload.now.bodies in let i = c.loop-other.other in let p = list_any (forks c.args.thread) in
    elim c.if-forked.branch [
      | then-forked w ↦ w.forked-is ∙ (w.if-forked.true ∙ sym (list_any_kept p xs i (sym c.loop-other.invariant ∙ w.if-forked.true)))
      | else-forked w ↦
          let body = w.body.result.now in
          w.forked-is ∙ (w.has_fork-forked.ensures
          ∙ (ap p (sym (get_or_from_slice_get xs i body none w.body.ensures.here))
          ∙ sym (list_any_more p xs i none (slice_get_within xs i body w.body.ensures.here)
          ∙ ap (λ b. b || p (get_or xs i none)) (sym c.loop-other.invariant ∙ w.if-forked.false))))
    ]
