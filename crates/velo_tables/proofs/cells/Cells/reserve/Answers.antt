use Rattle.std.proofs.Common.{ℕ, ◌+◌, List, Option, map, sym, ap, subst, ◌∙◌}
use Rattle.velo_arena.specs.declared.step.Step.{Step}
use Rattle.velo_tables.specs.declared.cells.CellAccesses.{CellAccesses}
use Rattle.velo_events.specs.Growth.{filled_up}
use Rattle.velo_tables.specs.LastAccesses.{no_accesses}
use Rattle.velo_tables.specs.Cells.{accesses_in, AreReadsLaidOut}
use Rattle.velo_events.proofs.OnResults.{from_either, OnOk-weaker}
use Rattle.velo_tables.proofs.OnCells.{laid-filled, accesses-filled}
use Rattle.velo_tables.proofs.cells.Cells.reserve.Goals as goal

abbrev filled_with : Option Step → ℕ → List CellAccesses → List CellAccesses
filled_with write n cells = filled_up (record { write = write; readers = 0; reads = record { start = 0; count = 0 } }) n cells

pub invariant_of-self : goal.invariant_of-self
invariant_of-self c =
    let inside = c.self.inside in
    from_either c.fill_up_to.result _ _ (AreReadsLaidOut inside.reads.items c.fill_up_to.new.items.items) c.fill_up_to.ensures.ok c.fill_up_to.ensures.err
    (λ e. subst (AreReadsLaidOut inside.reads.items) (sym (e ∙ ap (λ w. filled_with w (c.args.c.0 + 1) inside.cells.items) c.new.ensures)) (laid-filled inside.reads.items inside.cells.items (c.args.c.0 + 1) c.self.invariant))
    (λ e. subst (AreReadsLaidOut inside.reads.items) (sym e) c.self.invariant)

pub returns-clause-ok : goal.returns-clause-ok
returns-clause-ok c =
    let inside = c.self.inside in
    OnOk-weaker c.fill_up_to.result _ _ c.fill_up_to.ensures.ok
    (λ e. ap (map (accesses_in inside.reads.items)) (e ∙ ap (λ w. filled_with w (c.args.c.0 + 1) inside.cells.items) c.new.ensures)
    ∙ (accesses-filled inside.reads.items inside.cells.items (c.args.c.0 + 1) ∙ ap (filled_up no_accesses (c.args.c.0 + 1)) c.self.view_is))
