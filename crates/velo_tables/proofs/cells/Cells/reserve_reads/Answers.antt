use Rattle.std.proofs.Common.{◌++◌, length, map, sym, subst, ◌∙◌, ap, arith}
use Rattle.std.specs.Prelude.{None}
use Rattle.velo_events.specs.Growth.{filled_up}
use Rattle.velo_tables.specs.Cells.{reads_in, accesses_in, AreReadsLaidOut}
use Rattle.velo_events.proofs.OnResults.{OnErr-from}
use Rattle.velo_tables.proofs.OnCells.{there, found-fits, had-room, laid-more, accesses-more}
use Rattle.velo_tables.proofs.cells.Cells.reserve_reads.Goals as goal

pub returns-then-threads-reads-clause-ok : goal.returns-then-threads-reads-clause-ok
returns-then-threads-reads-clause-ok c =
    let inside = c.self.inside in
    had-room inside.reads.items inside.cells.items c.args.self.now c.self.invariant c.self.view_is c.args.c.0 c.args.threads c.index.result.now c.requires.there c.index.ensures (omega (arith, c.if-threads-reads.true))

pub append_longer-requires-clause-inside : goal.append_longer-requires-clause-inside
append_longer-requires-clause-inside c =
    let inside = c.self.inside in
    omega (arith, found-fits inside.reads.items inside.cells.items c.args.self.now c.self.invariant c.self.view_is c.args.c.0 c.requires.there c.index.result.now c.index.ensures, ap length c.reserve.ensures.items)

pub invariant_of-self-2 : goal.invariant_of-self-2
invariant_of-self-2 c =
    let inside = c.self.inside in
    laid-more inside.reads.items inside.cells.items c.args.self.now c.self.invariant c.self.view_is c.args.c.0 c.requires.there c.index.result.now c.index_mut.result.now c.index.ensures c.index_mut.ensures.value c.args.threads (omega (arith, c.if-threads-reads.false)) c.requires.few c.len-start.result (omega (arith, c.len-start.ensures, c.reserve.new.items.ok.0, ap length c.reserve.ensures.items)) c.append_longer.new.entries.items (c.append_longer.ensures ∙ ap (λ es. es ++ filled_up None c.args.threads (reads_in es c.index.result.now.reads)) c.reserve.ensures.items)

pub returns-clause-ok : goal.returns-clause-ok
returns-clause-ok c =
    let inside = c.self.inside in
    accesses-more inside.reads.items inside.cells.items c.args.self.now c.self.invariant c.self.view_is c.args.c.0 c.requires.there c.index.result.now c.index_mut.result.now c.index.ensures c.index_mut.ensures.value c.args.threads (omega (arith, c.if-threads-reads.false)) c.requires.few c.len-start.result (omega (arith, c.len-start.ensures, c.reserve.new.items.ok.0, ap length c.reserve.ensures.items)) c.append_longer.new.entries.items (c.append_longer.ensures ∙ ap (λ es. es ++ filled_up None c.args.threads (reads_in es c.index.result.now.reads)) c.reserve.ensures.items)

pub index-requires : goal.index-requires
index-requires c =
    let inside = c.self.inside in
    omega (arith, there inside.reads.items inside.cells.items c.args.self.now c.self.invariant c.self.view_is c.args.c.0 c.requires.there, inside.cells.ok.0)

pub index_mut-requires : goal.index_mut-requires
index_mut-requires c =
    let inside = c.self.inside in
    omega (arith, there inside.reads.items inside.cells.items c.args.self.now c.self.invariant c.self.view_is c.args.c.0 c.requires.there, inside.cells.ok.0)

pub append_longer-requires-clause-longer : goal.append_longer-requires-clause-longer
append_longer-requires-clause-longer c = omega (arith, c.if-threads-reads.false)

pub append_longer-requires-clause-room : goal.append_longer-requires-clause-room
append_longer-requires-clause-room c = omega (arith, c.in_ok-reserve.ensures.ok, c.reserve.new.items.ok.0)

pub invariant_of-self : goal.invariant_of-self
invariant_of-self c = subst (λ es. AreReadsLaidOut es c.self.inside.cells.items) (sym c.reserve.ensures.items) c.self.invariant

pub returns-in_err-reserve-clause-err : goal.returns-in_err-reserve-clause-err
returns-in_err-reserve-clause-err c =
    OnErr-from c.from_residual.result _ (ap (λ es. map (accesses_in es) c.self.inside.cells.items) c.reserve.ensures.items ∙ c.self.view_is)
