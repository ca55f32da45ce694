use Rattle.std.proofs.Common.{◌≡◌, ℕ, ◌+◌, ◌<◌, ◌≤◌, length, ap, sym, ◌∙◌, subst, arith}
use Rattle.std.proofs.lemmas.List.{length-set}
use Rattle.velo_events.specs.declared.config.Bounds.{Bounds}
use Rattle.velo_watch.proofs.OnWholes.{counted_one, few_counted}
use Rattle.velo_watch.proofs.summary.Whole.take_in.Goals as goal

pub overflow_add-index_mut : goal.overflow_add-index_mut
overflow_add-index_mut c =
    let few : c.index_mut.result.now ≤ length c.requires.log = few_counted c.args.self.now.counts.items c.requires.log c.from.result c.index_mut.result.now c.requires.is.counts (let at = c.from.ensures in omega (arith, at, c.requires.is.as_many, c.requires.follows.known_thread)) c.index_mut.ensures.value in
    omega (arith, few, c.requires.few)

pub returns-clause-next : goal.returns-clause-next
returns-clause-next c = λ log is. record {
  heap = c.apply.ensures.next log is.heap;
  as_many = length-set c.args.self.now.counts.items c.from.result (c.index_mut.result.now + 1) ∙ (is.as_many ∙ sym (ap (λ (b : Bounds). b.threads) c.apply.ensures.bounds));
  counts = counted_one c.args.self.now.counts.items log c.args.event.now c.from.result c.index_mut.result.now is.counts c.from.ensures
      (let at = c.from.ensures in omega (arith, at, c.requires.is.as_many, c.requires.follows.known_thread)) c.index_mut.ensures.value;
}
