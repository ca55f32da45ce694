use Rattle.std.proofs.Common.{◌<◌, length, arith}
use Rattle.velo_tables.proofs.OnCells.{same_count, room-tells}
use Rattle.velo_tables.proofs.cells.Cells.has_room_to_read.Goals as goal

pub returns-then-c-len : goal.returns-then-c-len
returns-then-c-len c =
    let inside = c.self.inside in
    let there : c.args.c.0 < length c.args.self.now = omega (arith, c.if-c-len.true, c.len.ensures, inside.cells.ok.0, same_count inside.reads.items inside.cells.items c.args.self.now c.self.invariant c.self.view_is) in
    room-tells inside.reads.items inside.cells.items c.args.self.now c.self.invariant c.self.view_is c.args.c.0 there c.index.result.now c.index.ensures c.args.t.0
