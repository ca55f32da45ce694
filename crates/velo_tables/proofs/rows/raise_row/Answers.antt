use Rattle.std.proofs.Common.{length, ap, ◌∙◌}
use Rattle.std.proofs.lemmas.List.{with_items_is}
use Rattle.velo_tables.specs.Clocks.{row_of}
use Rattle.velo_tables.specs.ClockRows.{maxima}
use Rattle.velo_tables.proofs.OnRaised.{length-raised}
use Rattle.velo_tables.proofs.OnRows.{row-long, part-is, length-put, is_written}
use Rattle.velo_tables.proofs.rows.raise_row.Goals as goal

pub returns : goal.returns
returns c =
    let list = c.args.list.now in
    let n = length list in
    let numbers = c.args.numbers.now in
    let i = c.args.number in
    let now = c.deref_mut.result.now in
    let same = c.deref_mut.ensures.value in
    let ys = c.raise.new.numbers in
    let raised = c.raise.ensures ∙ ap (λ xs. maxima xs list) (part-is n numbers.items i c.requires now same) in
    let long = ap length raised ∙ (length-raised (row_of n numbers.items i) list ∙ row-long n numbers.items i c.requires) in
    let whole = length-put n numbers.items i c.requires now same ys long in
    is_written n numbers.items i c.requires now same ys long (maxima (row_of n numbers.items i) list) raised _
    (with_items_is numbers _ (whole ∙ c.deref_mut.ensures.len))
