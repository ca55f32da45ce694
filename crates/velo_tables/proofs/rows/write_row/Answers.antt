use Rattle.std.proofs.Common.{length, ap, ◌∙◌}
use Rattle.std.proofs.lemmas.List.{with_items_is}
use Rattle.velo_tables.proofs.OnRows.{length-put, is_written}
use Rattle.velo_tables.proofs.rows.write_row.Goals as goal

pub returns : goal.returns
returns c =
    let n = length c.args.list.now in
    let numbers = c.args.numbers.now in
    let ys = c.copy_from_slice.new.self in
    let long = ap length c.copy_from_slice.ensures.after in
    let whole = length-put n numbers.items c.args.number c.requires c.deref_mut.result.now c.deref_mut.ensures.value ys long in
    is_written n numbers.items c.args.number c.requires c.deref_mut.result.now c.deref_mut.ensures.value ys long c.args.list.now c.copy_from_slice.ensures.after _
    (with_items_is numbers _ (whole ∙ c.deref_mut.ensures.len))
