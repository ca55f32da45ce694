use Rattle.std.proofs.Common.{◌∙◌}
use Rattle.velo_tables.proofs.OnCells.{there-tells}
use Rattle.velo_tables.proofs.cells.Cells.has_room_to_write.Goals as goal

pub returns : goal.returns
returns c =
    let inside = c.self.inside in
    there-tells inside.reads.items inside.cells.items c.args.self.now c.self.invariant c.self.view_is c.args.c.0 c.len.result (c.len.ensures ∙ inside.cells.ok.0)
