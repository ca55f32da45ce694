use Rattle.std.specs.Prelude.{IfNone, IfSome}
use Rattle.velo_events.specs.Reordering.{IsSerializable}
use Rattle.velo_world.proofs.OnAlarms.{AlarmOf-serializable}
use Rattle.velo_world.proofs.closed.Closed.alarm.Goals as goal

serializable : (c : goal.After-as_ref) → IfNone c.as_ref.result (IsSerializable c.args.self.now.log) × IfSome c.as_ref.result (λ _. ¬ IsSerializable c.args.self.now.log)
serializable c =
    AlarmOf-serializable c.args.self.now.log c.self.inside.alarm c.as_ref.result (rw (← c.self.view_is) c.self.invariant.alarm) c.as_ref.ensures.variant

pub returns-clause-serial_none : goal.returns-clause-serial_none
returns-clause-serial_none c = (serializable c).0

pub returns-clause-serial_some : goal.returns-clause-serial_some
returns-clause-serial_some c = (serializable c).1
