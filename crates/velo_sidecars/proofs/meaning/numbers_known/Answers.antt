use Rattle.std.proofs.Common.{ap, ◌∙◌}
use Rattle.std.specs.Prelude.{fold}
use Rattle.std.specs.List.{flat_map}
use Rattle.velo_sidecars.specs.declared.list_line.Entry.TheVariants.{Nothing}
use Rattle.velo_sidecars.specs.ListAnswers.{entries}
use Rattle.velo_sidecars.specs.Known.{numbers_in, with_number}
use Rattle.velo_sidecars.proofs.OnKnown.{entry_added, none_seen_of}
use Rattle.velo_sidecars.proofs.meaning.numbers_known.Goals as goal

pub loop-entry-init : goal.loop-entry-init
loop-entry-init c =
    record {
      so = ap (λ ns. fold with_number ns (flat_map (numbers_in c.args.names.now c.args.kind) (entries c.args.found.now))) c.new-numbers.ensures.items;
      seen = none_seen_of _ _ c.new-seen.ensures c.new-numbers.ensures.items;
    }

pub loop-entry-preserved : goal.loop-entry-preserved
loop-entry-preserved c =
    record {
      so =
          entry_added c.args.names.now c.args.kind c.args.found.now c.loop-entry.entry-index Nothing c.loop-entry-test.true _ _ _ _ c.loop-entry.invariant.so c.in_ok-these.ensures
          (c.in_ok-add_all.ensures.ok ∙ ap (fold with_number c.loop-entry.numbers.items) c.deref.ensures.value);
      seen = c.in_ok-add_all.ensures.seen;
    }
