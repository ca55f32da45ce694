use Rattle.velo_monitor.proofs.OnForgetting.{stands-forgotten, next-forgotten, seen-forgotten}
use Rattle.velo_monitor.proofs.monitor.Monitor.observe_resolved.Goals as goal

pub take_in-requires : goal.take_in-requires
take_in-requires c =
    let gone = c.forget_dead.ensures in
    next-forgotten c.args.self.now c.forget_dead.new.self gone.forgets gone.nodes gone.depths c.args.position c.args.event.now c.requires

pub returns-clause-seen : goal.returns-clause-seen
returns-clause-seen c bounds trace stands at follows =
    let gone = c.forget_dead.ensures in
    seen-forgotten c.args.self.now c.forget_dead.new.self gone.forgets gone.nodes gone.depths bounds trace c.args.event.now c.take_in.result c.take_in.new.self
    (c.take_in.ensures.seen bounds trace (stands-forgotten c.args.self.now c.forget_dead.new.self gone.forgets gone.nodes gone.depths bounds trace stands) at follows)
