use Rattle.std.proofs.Common.{length}
use Rattle.velo_schedule_text.proofs.OnTexts.{Reads}
use Rattle.velo_schedule_text.proofs.schedule.turns_of.Given as goal

abbrev pub invariant-loop-word : goal.invariant-loop-word
invariant-loop-word l = Reads l.text (length l.yielded) l.schedule.items
