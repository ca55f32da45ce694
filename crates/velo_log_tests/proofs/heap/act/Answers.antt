use Rattle.std.proofs.Common.{sym, ◌∙◌}
use Rattle.velo_heap.proofs.OnAdmission.{IsAdmitted-from}
use Rattle.velo_log_tests.proofs.heap.act.Goals as goal

pub apply-requires : goal.apply-requires
apply-requires c =
    IsAdmitted-from c.args.heap.now c.requires.0 c.args.thread c.args.action c.in-Ok.event c.requires.1
    (sym (c.admit.ensures c.requires.0 c.requires.1) ∙ c.in-Ok.is)
