use Rattle.std.proofs.Common.{◌≡◌, ◌<◌, ◌^◌, sym, ap, ◌∙◌, subst, arith, rules}
use Rattle.velo_events.specs.declared.thread_set.ThreadSet.{ThreadSet}
use Rattle.velo_events.specs.ThreadSets.{has_thread, with_thread}
use Rattle.velo_runtime.proofs.Chains.{IsSearch, IsSearch-start, IsSearch-next, IsSearch-whole, left_is, more_done}
use Rattle.velo_runtime.proofs.room.comes_back.Goals as goal

pub loop-thread-init : goal.loop-thread-init
loop-thread-init c =
    subst (IsSearch c.args.room.now.world.log c.args.room.now.waits c.args.wanted c.leads-reached.result) (sym c.none-done.ensures)
    (IsSearch-start c.args.room.now.world.log c.args.room.now.waits c.args.wanted c.leads-reached.result c.leads-reached.ensures)

pub loop-thread-smaller : goal.loop-thread-smaller
loop-thread-smaller c =
    let at = c.loop-thread in
    let t = c.in-Some.thread in
    let fits : c.with-done.result.0 < 18446744073709551616 = search rules in
    let left = left_is (has_thread at.done t.0) (has_thread at.reached t.0) (sym (c.difference.ensures t.0) ∙ c.in-Some.ensures.member) in
    let more = more_done at.done t c.in-Some.ensures.few left.0 in
    let next : c.with-done.result.0 ≡ (with_thread t at.done).0 = ap (λ (s : ThreadSet). s.0) c.with-done.ensures.set in
    omega (arith, more, fits, next)

pub loop-thread-preserved : goal.loop-thread-preserved
loop-thread-preserved c =
    let at = c.loop-thread in
    let t = c.in-Some.thread in
    let left = left_is (has_thread at.done t.0) (has_thread at.reached t.0) (sym (c.difference.ensures t.0) ∙ c.in-Some.ensures.member) in
    IsSearch-next c.args.room.now.world.log c.args.room.now.waits c.args.wanted at.reached at.done c.next_leads.result c.union-reached.result c.with-done.result t.0 at.invariant left.1 c.next_leads.ensures c.union-reached.ensures c.with-done.ensures.members

pub returns : goal.returns
returns c =
    let at = c.loop-thread in
    let whole = IsSearch-whole c.args.room.now.world.log c.args.room.now.waits c.args.wanted at.reached at.done at.invariant (λ u. sym (c.difference.ensures u) ∙ c.in_default.ensures.none u) c.args.caller.0 in
    (λ yes. whole.0 (sym c.has.ensures ∙ yes), λ back. c.has.ensures ∙ whole.1 back)
