use Rattle.std.proofs.Common.{take}
use Rattle.velo_filter.specs.Tables.{members}
use Rattle.velo_sidecars.specs.ListAnswers.{AreSeen}
use Rattle.velo_sidecars.proofs.meaning.seen_of.Given as goal

abbrev pub invariant-loop-number : goal.invariant-loop-number
invariant-loop-number l = record { seen : AreSeen (members l.seen) (take l.number-index l.numbers) }
