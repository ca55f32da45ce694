use Rattle.std.proofs.Common.{◌≡◌, sym, ◌∙◌, subst, arith}
use Rattle.std.specs.Prelude.{false, not, ◌&&◌, ◌==◌}
use Rattle.std.proofs.lemmas.Bool.{or_from}
use Rattle.velo_events.specs.Block.{any_below}
use Rattle.velo_events.specs.Heap.{shares_in}
use Rattle.velo_events.specs.Meaning.{is_shared_beside}
use Rattle.velo_events.proofs.OnBlocks.{any_below-next, any_below-zero, any_below-at}
use Rattle.velo_traces.proofs.judge.is_shared_beside.Goals as goal

pub loop-u-init : goal.loop-u-init
loop-u-init c = any_below-zero _

pub returns-then-is_sharer_beside : goal.returns-then-is_sharer_beside
unfolding is_shared_beside
returns-then-is_sharer_beside c =
    let yes_here = sym c.is_sharer_beside.ensures ∙ c.if-is_sharer_beside.true in
    sym (any_below-at c.args.bounds.threads (λ u. not (u == c.args.t.0) && shares_in c.args.events.now c.args.m.0 u) c.loop-u.u c.loop-u-test.true yes_here)

pub loop-u-preserved : goal.loop-u-preserved
loop-u-preserved c =
    let not_here = sym c.is_sharer_beside.ensures ∙ c.if-is_sharer_beside.false in
    any_below-next c.loop-u.u (λ u. not (u == c.args.t.0) && shares_in c.args.events.now c.args.m.0 u) ∙ or_from _ _ c.loop-u.invariant not_here

pub returns : goal.returns
unfolding is_shared_beside
returns c =
    let at : c.loop-u.u ≡ c.args.bounds.threads = omega arith in
    sym (subst (λ n. any_below n (λ u. not (u == c.args.t.0) && shares_in c.args.events.now c.args.m.0 u) ≡ false) at c.loop-u.invariant)
