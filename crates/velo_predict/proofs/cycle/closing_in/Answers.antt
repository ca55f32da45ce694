use Rattle.std.proofs.Common.{◌≡◌, ◌+◌, take, subst, arith}
use Rattle.std.proofs.lemmas.Grind.{common_steps}
use Rattle.velo_events.specs.Graph.{HasCycle}
use Rattle.velo_predict.proofs.OnClosings.{IsClosing-between}
use Rattle.velo_predict.proofs.cycle.closing_in.Goals as goal

pub returns-clause-some : goal.returns-clause-some
returns-clause-some c =
    let i = c.loop-with.invariant in
    let next : c.loop-with.with ≡ c.loop-with.without + 1 = grind (arith, common_steps) in
    IsClosing-between c.args.trace.now.events c.loop-with.without (omega (arith, i.apart, i.within)) i.none_before (subst (λ n. HasCycle (take n c.args.trace.now.events)) next i.some_after)
