use Rattle.std.proofs.Common.{ap, ◌∙◌, arith, set}
use Rattle.std.specs.Prelude.{option_map}
use Rattle.std.proofs.lemmas.List.Edits.{map_over_more}
use Rattle.velo_arena.specs.Heirs.{renamed}
use Rattle.velo_tables.proofs.entry.rename_entries.Goals as goal

pub loop-number-preserved : goal.loop-number-preserved
loop-number-preserved c =
    let entries = c.loop-number.entries in
    let number = c.loop-number.number in
    ap (set entries number) c.renamed.ensures
    ∙ map_over_more (option_map (renamed c.args.heirs.now)) c.args.entries.now entries number c.index-entries-number.result (omega (arith, c.loop-number-test.true)) c.loop-number.invariant c.index-entries-number.is
