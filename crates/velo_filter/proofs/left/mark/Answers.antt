use Rattle.std.proofs.Common.{◌+◌, ap, arith}
use Rattle.std.specs.Prelude.{length, false}
use Rattle.velo_events.proofs.OnFilling.{length-filled_up}
use Rattle.velo_filter.proofs.OnTables.{marked-set}
use Rattle.velo_filter.proofs.left.mark.Goals as goal

pub index_mut-requires : goal.index_mut-requires
index_mut-requires c =
    let items = c.fill_up_to.new.items in
    omega (arith, length-filled_up false (c.args.number + 1) c.args.marks.now.items, ap length c.in_ok-fill_up_to.ensures.ok, items.ok)

pub returns-clause-ok : goal.returns-clause-ok
returns-clause-ok c = marked-set c.args.marks.now.items c.args.number c.fill_up_to.new.items.items c.in_ok-fill_up_to.ensures.ok
