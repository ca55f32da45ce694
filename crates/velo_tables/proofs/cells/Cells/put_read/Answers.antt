use Rattle.std.proofs.Common.{arith}
use Rattle.velo_tables.proofs.OnCells.{there, place-inside, laid-read, accesses-read}
use Rattle.velo_tables.proofs.cells.Cells.put_read.Goals as goal

pub index-requires : goal.index-requires
index-requires c =
    let inside = c.self.inside in
    omega (arith, there inside.reads.items inside.cells.items c.args.self.now c.self.invariant c.self.view_is c.args.c.0 c.requires.there, inside.cells.ok.0)

pub index_mut-requires : goal.index_mut-requires
index_mut-requires c =
    let inside = c.self.inside in
    omega (arith, there inside.reads.items inside.cells.items c.args.self.now c.self.invariant c.self.view_is c.args.c.0 c.requires.there, inside.cells.ok.0)

pub overflow_add-start : goal.overflow_add-start
overflow_add-start c =
    let inside = c.self.inside in
    omega (arith, place-inside inside.reads.items inside.cells.items c.args.self.now c.self.invariant c.self.view_is c.args.c.0 c.requires.there c.index.result.now c.index_mut.result.now c.index.ensures c.index_mut.ensures.value c.args.t.0 c.args.readers c.args.step c.new.result c.new.ensures c.requires.room c.requires.covered)

pub index_mut-requires-2 : goal.index_mut-requires-2
index_mut-requires-2 c =
    let inside = c.self.inside in
    omega (arith, place-inside inside.reads.items inside.cells.items c.args.self.now c.self.invariant c.self.view_is c.args.c.0 c.requires.there c.index.result.now c.index_mut.result.now c.index.ensures c.index_mut.ensures.value c.args.t.0 c.args.readers c.args.step c.new.result c.new.ensures c.requires.room c.requires.covered, inside.reads.ok.0)

pub invariant_of-self : goal.invariant_of-self
invariant_of-self c =
    let inside = c.self.inside in
    laid-read inside.reads.items inside.cells.items c.args.self.now c.self.invariant c.self.view_is c.args.c.0 c.requires.there c.index.result.now c.index_mut.result.now c.index.ensures c.index_mut.ensures.value c.args.t.0 c.args.readers c.args.step c.new.result c.new.ensures c.requires.room c.requires.covered

pub returns : goal.returns
returns c =
    let inside = c.self.inside in
    accesses-read inside.reads.items inside.cells.items c.args.self.now c.self.invariant c.self.view_is c.args.c.0 c.requires.there c.index.result.now c.index_mut.result.now c.index.ensures c.index_mut.ensures.value c.args.t.0 c.args.readers c.args.step c.new.result c.new.ensures c.requires.room c.requires.covered
