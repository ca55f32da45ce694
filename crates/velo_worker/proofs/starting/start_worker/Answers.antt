use Rattle.velo_seal.specs.Start.{unstarted}
use Rattle.velo_worker.proofs.OnCauses.{on_err}
use Rattle.velo_worker.proofs.starting.start_worker.Goals as goal

pub returns : goal.returns
returns g c = record { start = on_err _ unstarted }
