use Rattle.std.proofs.Common.{subst}
use Rattle.velo_worker.specs.Live.{EndsAs}
use Rattle.velo_worker.proofs.OnDone.{all_did}
use Rattle.velo_worker.proofs.living.finish.Goals as goal

pub returns-in-Ok-clause-ending : goal.returns-in-Ok-clause-ending
returns-in-Ok-clause-ending c = rw c.as_slice.ensures.value at c.ending_of-ending.ensures.ending

pub returns-in-Ok-clause-done : goal.returns-in-Ok-clause-done
returns-in-Ok-clause-done c =
    λ done. all_did c.args.workload.now c.in-Ok.closed c.in-Some.seats.items c.in-Ok.ensures.seats
    (c.in-Some.ensures (subst (EndsAs c.args.ended.items) done (rw c.as_slice.ensures.value at c.ending_of-ending.ensures.ending)))
