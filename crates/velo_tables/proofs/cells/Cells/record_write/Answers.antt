use Rattle.std.proofs.Common.{get_or, ◌∙◌, ap, arith}
use Rattle.std.proofs.Math.ListN.{set}
use Rattle.velo_tables.specs.LastAccesses.{no_accesses}
use Rattle.velo_tables.specs.Recorded.{with_write}
use Rattle.velo_tables.proofs.OnCells.{there, laid-written, accesses-written}
use Rattle.velo_tables.proofs.cells.Cells.record_write.Goals as goal

pub returns : goal.returns
returns c =
    let inside = c.self.inside in
    accesses-written inside.reads.items inside.cells.items c.args.self.now c.self.invariant c.self.view_is c.args.c.0 c.requires c.index_mut.result.now c.index_mut.ensures.value c.new.result
    ∙ ap (λ step. set c.args.self.now c.args.c.0 (with_write (get_or c.args.self.now c.args.c.0 no_accesses) step)) c.new.ensures

pub index_mut-requires : goal.index_mut-requires
index_mut-requires c =
    let inside = c.self.inside in
    omega (arith, there inside.reads.items inside.cells.items c.args.self.now c.self.invariant c.self.view_is c.args.c.0 c.requires, inside.cells.ok.0)

pub invariant_of-self : goal.invariant_of-self
invariant_of-self c =
    let inside = c.self.inside in
    laid-written inside.reads.items inside.cells.items c.args.self.now c.self.invariant c.self.view_is c.args.c.0 c.requires c.index_mut.result.now c.index_mut.ensures.value c.new.result
