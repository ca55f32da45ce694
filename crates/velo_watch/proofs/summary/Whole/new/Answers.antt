use Rattle.std.proofs.Common.{◌≡◌, length, replicate, ap, sym, ◌∙◌, subst, arith}
use Rattle.std.proofs.lemmas.Grind.{common_steps}
use Rattle.velo_events.specs.declared.config.Bounds.{Bounds}
use Rattle.velo_heap.specs.Contents.{Tabulates}
use Rattle.velo_events.specs.Tally.{events_of}
use Rattle.velo_watch.proofs.OnWholes.{none_counted}
use Rattle.velo_watch.proofs.summary.Whole.new.Goals as goal

pub returns-clause-none : goal.returns-clause-none
returns-clause-none c =
    let items : c.in_ok-counts.counts.items ≡ replicate c.args.config.now.bounds.threads 0 = grind (arith, common_steps) in
    let many : length c.in_ok-counts.counts.items ≡ c.args.config.now.bounds.threads = grind (arith, common_steps) in
    record {
      heap = c.in_ok-heap.ensures.start;
      as_many = many ∙ sym (ap (λ (b : Bounds). b.threads) c.in_ok-heap.ensures.bounds);
      counts = subst (λ xs. Tabulates xs (events_of _)) (sym items) (none_counted c.args.config.now.bounds.threads);
    }
