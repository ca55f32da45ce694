use Rattle.std.proofs.Common.{rules}
use Rattle.velo_graph.proofs.graph.Graph.add_edge.Goals as goal

pub carry_edge-requires-clause-acyclic : goal.carry_edge-requires-clause-acyclic
carry_edge-requires-clause-acyclic g c = search rules
