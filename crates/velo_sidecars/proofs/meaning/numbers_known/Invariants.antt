use Rattle.std.proofs.Common.{◌≡◌, drop}
use Rattle.std.specs.Prelude.{fold}
use Rattle.std.specs.List.{flat_map}
use Rattle.velo_filter.specs.Tables.{members}
use Rattle.velo_sidecars.specs.ListAnswers.{AreSeen, entries}
use Rattle.velo_sidecars.specs.Known.{numbers_in, numbers_known, with_number}
use Rattle.velo_sidecars.proofs.meaning.numbers_known.Given as goal

abbrev pub invariant-loop-entry : goal.invariant-loop-entry
invariant-loop-entry l =
    record {
      so : fold with_number l.numbers.items (flat_map (numbers_in l.names l.kind) (entries (drop l.entry-index l.found))) ≡ numbers_known l.names l.kind (entries l.found);
      seen : AreSeen (members l.seen) l.numbers.items;
    }
