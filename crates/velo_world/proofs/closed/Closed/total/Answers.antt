use Rattle.std.proofs.Common.{ap, sym, ◌∙◌}
use Rattle.velo_ledger.specs.Logs.{events_below}
use Rattle.velo_world.specs.InsideClosed.{closed_state}
use Rattle.velo_world.specs.World.{WorldState}
use Rattle.velo_world.proofs.OnHoldings.{events_below-log}
use Rattle.velo_world.proofs.OnLogReplays.{well_formed-by}
use Rattle.velo_world.proofs.closed.Closed.total.Goals as goal

pub returns-clause-tallies : goal.returns-clause-tallies
returns-clause-tallies c =
    let w = closed_state c.self.inside in
    let kept = c.self.invariant in
    let world = c.len.ensures ∙ sym (events_below-log w.config.bounds w.log (well_formed-by _ _ _ kept.bounds kept.heap.well_formed)) in
    world ∙ ap (λ (v : WorldState). events_below v.log v.config.bounds.threads) c.self.view_is
