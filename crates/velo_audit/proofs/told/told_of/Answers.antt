use Rattle.std.proofs.Common.{arith}
use Rattle.velo_audit.proofs.OnTold.{transaction-within}
use Rattle.velo_audit.proofs.told.told_of.Goals as goal

pub place_at-requires-2 : goal.place_at-requires-2
place_at-requires-2 c = omega (arith, transaction-within c.args.what.now.events c.args.alarm.now c.requires.alarm, c.requires.as_many)
