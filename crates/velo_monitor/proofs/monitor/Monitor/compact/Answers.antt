use Rattle.std.proofs.Common.{◌≡◌, length, subst, arith}
use Rattle.velo_monitor.specs.Heirs.{HaveThreads}
use Rattle.velo_monitor.proofs.OnCompaction.{threads-few, threads-known, same-compacted, few-compacted}
use Rattle.velo_monitor.proofs.monitor.Monitor.compact.Goals as goal

pub find-requires-clause-few : goal.find-requires-clause-few
find-requires-clause-few c =
    let inner = c.self.inside in
    let few = threads-few c.args.events.now inner.graph inner.tables inner.depths.items c.args.self.now c.self.view_is c.requires in
    omega (arith, few, c.len.ensures, inner.depths.ok.0)

pub find-requires-clause-threads : goal.find-requires-clause-threads
find-requires-clause-threads c =
    let inner = c.self.inside in
    let threads : length inner.depths.items ≡ c.len.result = omega (arith, c.len.ensures, inner.depths.ok.0) in
    subst (HaveThreads inner.graph c.args.events.now) threads (threads-known c.args.events.now inner.graph inner.tables inner.depths.items c.args.self.now c.self.view_is c.requires)

pub returns-clause-same : goal.returns-clause-same
returns-clause-same c =
    let inner = c.self.inside in
    same-compacted c.args.events.now inner.graph inner.tables inner.depths.items c.args.self.now c.self.view_is c.find.new.self c.list.result.now c.find.ensures.heirs c.list.ensures c.leave_out.new.self c.leave_out.ensures.leaves c.list-2.result.now c.rename.new.self c.list-2.ensures c.leave_out.ensures.sound c.rename.ensures.renamed c.rename.ensures.threads

pub returns-clause-few : goal.returns-clause-few
returns-clause-few c =
    let inner = c.self.inside in
    few-compacted c.args.events.now inner.graph inner.tables inner.depths.items c.args.self.now c.self.view_is c.find.new.self c.list.result.now c.find.ensures.heirs c.list.ensures c.leave_out.new.self c.leave_out.ensures.leaves
