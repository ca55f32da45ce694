use Rattle.velo_schedule_text.proofs.OnTexts.{one_of_text}
use Rattle.velo_schedule_text.proofs.laws.one_schedule.Goals as goal

pub returns : goal.returns
returns c = one_of_text
