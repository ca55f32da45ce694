use Rattle.velo_monitor.proofs.OnLive.{accounted-by_stamps, given_up-harmless}
use Rattle.velo_world.proofs.OnWorlds.{IsMonitorOf-part}
use Rattle.velo_world.proofs.world.World.monitor.Goals as goal

pub returns-clause-stands : goal.returns-clause-stands
returns-clause-stands c trace part = IsMonitorOf-part c.self.inside c.args.self.now trace c.self.view_is c.self.invariant part

pub returns-clause-accounted : goal.returns-clause-accounted
returns-clause-accounted c trace part = accounted-by_stamps _ _ trace (IsMonitorOf-part c.self.inside c.args.self.now trace c.self.view_is c.self.invariant part)

pub returns-clause-given_up : goal.returns-clause-given_up
returns-clause-given_up c trace part = given_up-harmless _ _ trace (IsMonitorOf-part c.self.inside c.args.self.now trace c.self.view_is c.self.invariant part)
