use Rattle.std.proofs.Common.{sym, ◌∙◌}
use Rattle.velo_heap.proofs.OnAdmission.{IsAdmitted-from}
use Rattle.velo_delays.proofs.run.admitted.Goals as goal

pub returns-in-Ok : goal.returns-in-Ok
returns-in-Ok c =
    IsAdmitted-from c.args.heap.now c.requires.trace c.args.thread c.args.action c.in-Ok.event c.requires.is_heap
    (sym (c.admit.ensures c.requires.trace c.requires.is_heap) ∙ c.in-Ok.is)
