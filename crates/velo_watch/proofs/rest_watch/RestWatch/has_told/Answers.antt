use Rattle.velo_watch.proofs.OnRests.{alarm_there}
use Rattle.velo_watch.proofs.rest_watch.RestWatch.has_told.Goals as goal

pub returns : goal.returns
returns c = rw c.is_some.ensures (alarm_there c.args.self.now.rest.world.log c.alarm.result c.alarm.ensures.none c.alarm.ensures.some)
