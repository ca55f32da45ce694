use Rattle.std.proofs.Common.{◌+◌, sym, subst, ◌∙◌}
use Rattle.std.proofs.lemmas.Bool.{both_ways}
use Rattle.velo_certify.specs.Nearest.{IsWithNext}
use Rattle.velo_certify.proofs.OnNearest.{IsNearestSoFar, IsNearestSoFar-none, IsNearestSoFar-next}
use Rattle.velo_certify.proofs.nearest.nearest_next.Goals as goal
use Rattle.velo_certify.proofs.nearest.nearest_next.Goals.{then-makes_edge, else-makes_edge}

pub loop-at-preserved : goal.loop-at-preserved
loop-at-preserved c =
    let trace = c.args.events.now in let distance = c.args.distance.now in let from = c.args.from in let n = c.loop-at.at in
    record {
      sizes = c.makes_edge.ensures.names ∙ c.loop-at.invariant.sizes;
      numbers = c.makes_edge.ensures.numbers;
      nearest = elim c.if-makes_edge.branch [
        | then-makes_edge w ↦
            subst (IsNearestSoFar trace distance from (n + 1)) (sym w.nearest-is)
            (IsNearestSoFar-next trace distance from n c.loop-at.nearest w.with_next-nearest.result (c.makes_edge.ensures.edge.0 w.if-makes_edge.true)
            (subst (λ b. IsWithNext distance c.loop-at.nearest b w.with_next-nearest.result) w.owner_of.ensures.owner w.with_next-nearest.ensures) c.loop-at.invariant.nearest)
        | else-makes_edge w ↦
            subst (IsNearestSoFar trace distance from (n + 1)) (sym w.nearest-is)
            (IsNearestSoFar-none trace distance from n c.loop-at.nearest (λ h. both_ways c.makes_edge.result w.if-makes_edge.false (c.makes_edge.ensures.edge.1 h)) c.loop-at.invariant.nearest)
      ];
    }
