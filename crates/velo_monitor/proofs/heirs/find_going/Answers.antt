use Rattle.velo_monitor.proofs.OnFirsts.{going-none}
use Rattle.velo_monitor.proofs.heirs.find_going.Goals as goal

pub loop-slot-init : goal.loop-slot-init
loop-slot-init c = going-none c.args.graph.now c.args.events.now c.clear.new.list c.clear.ensures.none
