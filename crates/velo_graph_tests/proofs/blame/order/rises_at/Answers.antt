use Rattle.std.proofs.Common.{sym, ◌∙◌}
use Rattle.velo_traces.proofs.Past.{past}
use Rattle.velo_graph_tests.proofs.OnRising.{RisesAt-free}
use Rattle.velo_graph_tests.proofs.blame.order.rises_at.Goals as goal

pub returns-then-not-conflicts : goal.returns-then-not-conflicts
returns-then-not-conflicts c yes_it_is =
    RisesAt-free c.args.trace.now.events c.as_slice-events.result.now c.as_slice-events.ensures c.args.ranks.now c.args.i c.args.j past c.requires.in_order c.requires.in_trace
    (sym c.conflicts.ensures ∙ c.if-not-conflicts.true)
