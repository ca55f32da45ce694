use Rattle.velo_certify.proofs.OnClosing.{closing_cycle}
use Rattle.velo_ffi.proofs.explaining.explain_alarm.Goals as goal

pub unreachable-requires : goal.unreachable-requires
unreachable-requires c =
    closing_cycle c.args.log.now.events c.args.alarm.now.position c.requires.closing (rw c.in-Err-NoCycle.field-0-is at c.in-Err-NoCycle.ensures.fault)
