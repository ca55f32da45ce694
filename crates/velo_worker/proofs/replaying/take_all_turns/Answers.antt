use Rattle.std.proofs.Common.{inr}
use Rattle.velo_worker.proofs.replaying.take_all_turns.Goals as goal

pub returns-in-None : goal.returns-in-None
returns-in-None c = inr (c.follow.new.self, c.in-None.ensures, c.take_rounds.ensures)
