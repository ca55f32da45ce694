use Rattle.std.proofs.Common.{rules}
use Rattle.velo_world.proofs.logged_run.LoggedRun.decide.Goals as goal

pub returns : goal.returns
returns c = search rules
