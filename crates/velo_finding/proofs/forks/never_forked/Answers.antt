use Rattle.std.proofs.Common.{◌≡◌, ◌∙◌, ◌+◌, ◌-◌, ◌++◌, List, [], ◌∷◌, ap, sym, map, not, arith, cond}
use Rattle.std.specs.Prelude.{filter}
use Rattle.std.specs.List.{range_with_len}
use Rattle.std.proofs.lemmas.List.FromFn.{filter_of_map_range_with_len_more}
use Rattle.velo_events.specs.declared.event.ThreadId.{ThreadId}
use Rattle.velo_finding.specs.Forks.{is_forked, thread_of_number}
use Rattle.velo_finding.proofs.forks.never_forked.Goals as goal

pub loop-thread-preserved : goal.loop-thread-preserved
loop-thread-preserved c =
    let program = c.args.workload.now in let t = c.loop-thread.thread in
    let first : 1 + (t - 1) ≡ t = omega (arith, c.loop-thread.auto.thread) in
    let more : t - 1 + 1 ≡ t + 1 - 1 = omega (arith, c.loop-thread.auto.thread) in
    c.in_ok-add_unless_forked.ensures
    ∙ (ap (λ (xs : List ThreadId). xs ++ cond (not (is_forked program (thread_of_number t))) (thread_of_number t ∷ []) []) c.loop-thread.invariant
    ∙ (sym (filter_of_map_range_with_len_more (λ u. not (is_forked program u)) thread_of_number 1 (t - 1) t first)
    ∙ ap (λ n. filter (λ u. not (is_forked program u)) (map thread_of_number (range_with_len 1 n))) more))
