use Rattle.velo_schedule_text.proofs.OnShort.{short_reads_back}
use Rattle.velo_schedule_text.proofs.laws.reads_back.Goals as goal

pub returns : goal.returns
returns c = short_reads_back
