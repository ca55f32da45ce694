use Rattle.std.proofs.Common.{rules}
use Rattle.velo_graph.proofs.graph.Graph.edge_between.Goals as goal

pub returns-then-known-clause-known : goal.returns-then-known-clause-known
returns-then-known-clause-known g c = search rules

pub returns-then-known-clause-closes : goal.returns-then-known-clause-closes
returns-then-known-clause-closes g c = search rules

pub returns-else-reaches-clause-known : goal.returns-else-reaches-clause-known
returns-else-reaches-clause-known g c = search rules

pub returns-else-reaches-clause-added : goal.returns-else-reaches-clause-added
returns-else-reaches-clause-added g c = search rules
