use Rattle.std.proofs.Common.{◌+◌, ◌-◌, ◌++◌, take, vec_len, ap, ◌∙◌, arith}
use Rattle.std.specs.Prelude.{replicate}
use Rattle.velo_tables.proofs.OnCells.{longer-appended}
use Rattle.velo_tables.proofs.cells.append_longer.Goals as goal

pub returns : goal.returns
returns c =
    let before = c.args.entries.now in
    let extended = c.extend_from_within.new.self in
    let end = c.len.result + c.args.count in
    c.in-Ok-resize.ensures.items
    ∙ (ap (λ blank. take end extended.items ++ replicate (end - vec_len extended) blank) c.new.ensures
    ∙ longer-appended before.items extended.items (vec_len extended) c.args.reads c.args.count end c.requires.inside c.requires.longer (omega (arith, c.len.ensures, before.ok.0)) (omega (arith, extended.ok.0)) c.in-Ok.ensures.items)
