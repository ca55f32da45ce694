use Rattle.std.proofs.Common.{sym, ap, ◌∙◌}
use Rattle.std.proofs.lemmas.Bool.{both_ways}
use denote.Enum.Bare.{sameb}
use Rattle.velo_graph.specs.contracts.graph.Edge.{the_type}
use Rattle.velo_graph.specs.declared.graph.Edge.TheVariants.{Closes}
use Rattle.velo_monitor.proofs.OnSteps.{only-dead, only-from, resolved_to, resolved_none}
use Rattle.velo_monitor.proofs.edges.closes_or_adds.Goals as goal

pub returns-in-Some-clause-adds : goal.returns-in-Some-clause-adds
returns-in-Some-clause-adds c going =
    let edge = c.add_edge in
    let at = resolved_to _ _ c.in-Some.from (sym c.in-Some.is ∙ c.resolve.ensures) in
    only-from c.args.graph.now edge.new.self c.args.step c.args.to c.requires.sound at.0 edge.ensures.sound edge.result c.in-Some.from (λ is. both_ways c.eq.result going (c.eq.ensures ∙ ap (λ r. sameb the_type r Closes) is)) at.1 edge.ensures.same edge.ensures.known edge.ensures.closes edge.ensures.added edge.ensures.unchanged

pub returns-in-None-clause-adds : goal.returns-in-None-clause-adds
returns-in-None-clause-adds c going = only-dead c.args.graph.now c.args.step c.args.to c.requires.sound (resolved_none _ _ (sym c.in-None.is ∙ c.resolve.ensures))
