use Rattle.velo_monitor.proofs.OnStart.{starts}
use Rattle.velo_monitor.proofs.monitor.Monitor.new.Goals as goal

pub returns-clause-start : goal.returns-clause-start
returns-clause-start c =
    let graph = c.in_ok-graph.ensures in
    let tables = c.in_ok-tables.ensures in
    starts c.args.config.now.bounds _ c.args.config.now.nodes c.args.config.now.few_threads graph.nodes graph.newest graph.no_ancestors graph.sound tables.blank tables.threads (c.in_ok-depths.ensures.items_if_clones_equal (λ y same. same))
