use Rattle.std.proofs.Common.{◌≡◌, ◌<◌, arith, replicate, get_or, ap, ◌∙◌}
use Rattle.std.proofs.lemmas.List.{get_or-replicate}
use Rattle.std.proofs.lemmas.Grind.{common_steps}
use Rattle.velo_events.specs.declared.event.Status.TheVariants.{Live}
use Rattle.velo_heap.specs.declared.thread_state.ThreadState.{ThreadState}
use Rattle.velo_heap.specs.Steps.{unborn, free}
use Rattle.velo_heap.proofs.OnChanges.{IsHeapOf-made}
use Rattle.velo_heap.proofs.heap.Heap.new.Goals as goal

pub returns-clause-start : goal.returns-clause-start
returns-clause-start c =
    let bounds = c.args.config.now.bounds in
    let values : c.in_ok-values.values.items ≡ replicate bounds.variables 0 = grind (arith, common_steps) in
    let locks : c.in_ok-locks.locks.items ≡ replicate bounds.locks free = grind (arith, common_steps) in
    let threads : c.in_ok-threads.threads.items ≡ replicate bounds.threads unborn = grind (arith, common_steps) in
    let some : 0 < bounds.threads = c.args.config.now.some_thread in
    let first : c.index_mut.result.now ≡ unborn = c.index_mut.ensures.value ∙ (ap (λ thread_states. get_or thread_states 0 c.index_mut.result.now) threads ∙ get_or-replicate bounds.threads 0 unborn _ some) in
    IsHeapOf-made bounds.threads bounds.variables bounds.locks _ _ _ _ some values locks threads (ap (λ (own : ThreadState). record own { status = Live }) first)
