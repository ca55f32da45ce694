use Rattle.std.proofs.Common.{◌<◌, Bool, length, get_or, arith, ◌∙◌, sym, ap}
use Rattle.std.specs.FinSet as set
use Rattle.velo_graph.specs.Rows.{without}
use Rattle.velo_graph.proofs.OnRows.{capacity_at, changes-step, capacities-step}
use Rattle.velo_graph.proofs.rows.leave_out_first.Goals as goal

pub contains-requires : goal.contains-requires
contains-requires g c = omega (arith, c.loop-n-test.true, c.loop-n.auto.n-end, c.requires.count, c.requires.gone)

pub leave_out-requires : goal.leave_out-requires
leave_out-requires g c =
    let inside : c.loop-n.n < length c.args.rows.now = omega (arith, c.loop-n-test.true, c.loop-n.auto.n-end, c.requires.count) in
    c.requires.gone ∙ sym (capacity_at g.A.Ancestors.capacity c.loop-n.rows (length c.args.rows.now) c.loop-n.n c.index-rows-n.result (c.loop-n.invariant.1 ∙ c.requires.capacities) inside)

pub loop-n-preserved : goal.loop-n-preserved
loop-n-preserved g c =
    let gone = g.A.Ancestors.members c.args.gone.now in
    let inside : c.loop-n.n < length c.loop-n.rows = omega (arith, c.loop-n-test.true, c.loop-n.auto.n-end, c.loop-n.auto.rows, c.requires.count) in (
      changes-step g.A.Ancestors.members (λ k. without (set.contains gone k) gone) c.args.rows.now c.loop-n.rows c.loop-n.n c.index-rows-n.result c.leave_out.new.row inside c.loop-n.invariant.0 (c.leave_out.ensures.members ∙ ap (λ (b : Bool). without b gone (g.A.Ancestors.members (get_or c.loop-n.rows c.loop-n.n c.index-rows-n.result))) c.contains.ensures),
      capacities-step g.A.Ancestors.capacity c.args.rows.now c.loop-n.rows c.loop-n.n c.index-rows-n.result c.leave_out.new.row inside c.loop-n.invariant.1 c.leave_out.ensures.capacity,
    )
