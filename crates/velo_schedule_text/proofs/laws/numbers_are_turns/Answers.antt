use Rattle.velo_schedule_text.proofs.OnNumbers.{numbers_say_turns}
use Rattle.velo_schedule_text.proofs.laws.numbers_are_turns.Goals as goal

pub returns : goal.returns
returns c = numbers_say_turns
