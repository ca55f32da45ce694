use Rattle.std.proofs.Common.{◌≡◌, replicate, sym, subst, arith}
use Rattle.std.proofs.lemmas.Grind.{common_steps}
use Rattle.velo_search.specs.Kept.{summary_of}
use Rattle.velo_search.specs.Summary.{IsSummaryOf}
use Rattle.velo_search.proofs.OnStates.{next-start}
use Rattle.velo_search.proofs.state.State.new.Goals as goal

pub returns-clause-start : goal.returns-clause-start
returns-clause-start c = λ rest none.
    let next : c.in_ok-next.next.items ≡ replicate c.args.config.now.bounds.threads 0 = grind (arith, common_steps) in
    record {
      heap = c.in_ok-heap.ensures.start;
      next = next-start c.in_ok-next.next.items c.args.config.now.bounds.threads next;
      graph = subst (λ es. IsSummaryOf es (summary_of c.in_ok-marks.marks)) (sym none) c.in_ok-marks.ensures.start;
    }
