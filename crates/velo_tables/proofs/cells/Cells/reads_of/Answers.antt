use Rattle.std.proofs.Common.{◌<◌, length, sym, ap, arith}
use Rattle.std.proofs.lemmas.List.{get_or_past}
use Rattle.velo_tables.specs.LastAccesses.{Accesses, no_accesses}
use Rattle.velo_tables.proofs.OnCells.{same_count, part-fits, part-is}
use Rattle.velo_tables.proofs.cells.Cells.reads_of.Goals as goal

pub overflow_add-result : goal.overflow_add-result
overflow_add-result c =
    let inside = c.self.inside in
    let there : c.args.c.0 < length c.args.self.now = omega (arith, c.if-c-len.true, c.len.ensures, inside.cells.ok.0, same_count inside.reads.items inside.cells.items c.args.self.now c.self.invariant c.self.view_is) in
    omega (arith, part-fits inside.reads.items inside.cells.items c.args.self.now c.self.invariant c.self.view_is c.args.c.0 there c.index.result.now c.deref.result.now c.index.ensures c.deref.ensures.value)

pub offset_bounds-deref-reads : goal.offset_bounds-deref-reads
offset_bounds-deref-reads c =
    let inside = c.self.inside in
    let there : c.args.c.0 < length c.args.self.now = omega (arith, c.if-c-len.true, c.len.ensures, inside.cells.ok.0, same_count inside.reads.items inside.cells.items c.args.self.now c.self.invariant c.self.view_is) in
    omega (arith, part-fits inside.reads.items inside.cells.items c.args.self.now c.self.invariant c.self.view_is c.args.c.0 there c.index.result.now c.deref.result.now c.index.ensures c.deref.ensures.value)

pub slice_bounds-result-count : goal.slice_bounds-result-count
slice_bounds-result-count c = omega arith

pub slice_bounds-result-start : goal.slice_bounds-result-start
slice_bounds-result-start c = omega arith

pub slice_bounds-result-end : goal.slice_bounds-result-end
slice_bounds-result-end c =
    let inside = c.self.inside in
    let there : c.args.c.0 < length c.args.self.now = omega (arith, c.if-c-len.true, c.len.ensures, inside.cells.ok.0, same_count inside.reads.items inside.cells.items c.args.self.now c.self.invariant c.self.view_is) in
    part-fits inside.reads.items inside.cells.items c.args.self.now c.self.invariant c.self.view_is c.args.c.0 there c.index.result.now c.deref.result.now c.index.ensures c.deref.ensures.value

pub returns-then-c-len : goal.returns-then-c-len
returns-then-c-len c =
    let inside = c.self.inside in
    let there : c.args.c.0 < length c.args.self.now = omega (arith, c.if-c-len.true, c.len.ensures, inside.cells.ok.0, same_count inside.reads.items inside.cells.items c.args.self.now c.self.invariant c.self.view_is) in
    part-is inside.reads.items inside.cells.items c.args.self.now c.self.invariant c.self.view_is c.args.c.0 there c.index.result.now c.deref.result.now c.index.ensures c.deref.ensures.value

pub returns-else-c-len : goal.returns-else-c-len
returns-else-c-len c =
    let inside = c.self.inside in
    sym (ap (λ (a : Accesses). a.reads) (get_or_past c.args.self.now c.args.c.0 no_accesses (omega (arith, c.if-c-len.false, c.len.ensures, inside.cells.ok.0, same_count inside.reads.items inside.cells.items c.args.self.now c.self.invariant c.self.view_is))))
