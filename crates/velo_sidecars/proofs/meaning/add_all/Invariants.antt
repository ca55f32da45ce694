use Rattle.std.proofs.Common.{◌≡◌, drop}
use Rattle.std.specs.Prelude.{fold}
use Rattle.velo_filter.specs.Tables.{members}
use Rattle.velo_sidecars.specs.ListAnswers.{AreSeen}
use Rattle.velo_sidecars.specs.Known.{with_number}
use Rattle.velo_sidecars.proofs.meaning.add_all.Given as goal

abbrev pub invariant-loop-number : goal.invariant-loop-number
invariant-loop-number l =
    record {
      so : fold with_number l.numbers.items (drop l.number-index l.found) ≡ fold with_number l.initial.numbers.items l.found;
      seen : AreSeen (members l.seen) l.numbers.items;
    }
