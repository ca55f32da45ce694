use Rattle.std.proofs.Common.{map, ap, ◌∙◌, arith}
use Rattle.std.specs.Prelude.{option_map}
use Rattle.std.proofs.lemmas.List.{with_items_is}
use Rattle.velo_arena.specs.Heirs.{renamed}
use Rattle.velo_tables.specs.Recorded.{with_write_by}
use Rattle.velo_tables.proofs.OnRenamed.{laid-as, accesses-as}
use Rattle.velo_tables.proofs.cells.Cells.rename.Goals as goal

pub invariant_of-self : goal.invariant_of-self
invariant_of-self c =
    let inner = c.self.inside in
    let heirs = c.args.heirs.now in
    let cells_are = with_items_is inner.cells c.rename_writes.new.cells (omega (arith, c.rename_writes.auto.cells, c.deref_mut.ensures.len)) ∙ c.rename_writes.ensures ∙ ap (map (with_write_by heirs)) c.deref_mut.ensures.value in
    let reads_are = with_items_is inner.reads c.rename_entries.new.entries (omega (arith, c.rename_entries.auto.entries, c.deref_mut-2.ensures.len)) ∙ c.rename_entries.ensures ∙ ap (map (option_map (renamed heirs))) c.deref_mut-2.ensures.value in
    laid-as heirs inner.reads.items _ inner.cells.items _ c.args.self.now reads_are cells_are c.self.invariant

pub returns : goal.returns
returns c =
    let inner = c.self.inside in
    let heirs = c.args.heirs.now in
    let cells_are = with_items_is inner.cells c.rename_writes.new.cells (omega (arith, c.rename_writes.auto.cells, c.deref_mut.ensures.len)) ∙ c.rename_writes.ensures ∙ ap (map (with_write_by heirs)) c.deref_mut.ensures.value in
    let reads_are = with_items_is inner.reads c.rename_entries.new.entries (omega (arith, c.rename_entries.auto.entries, c.deref_mut-2.ensures.len)) ∙ c.rename_entries.ensures ∙ ap (map (option_map (renamed heirs))) c.deref_mut-2.ensures.value in
    accesses-as heirs inner.reads.items _ inner.cells.items _ c.args.self.now reads_are cells_are c.self.view_is
