use Rattle.std.proofs.Common.{◌<◌, length, sym, ap, subst, arith}
use Rattle.std.proofs.lemmas.List.{with_items_is}
use Rattle.velo_events.specs.Event.{thread_of}
use Rattle.velo_tables.specs.Clocks.{ClockState}
use Rattle.velo_tables.specs.ClockRows.{numbers_of}
use Rattle.velo_tables.proofs.OnNoted.{noted-tables}
use Rattle.velo_tables.proofs.clocks.ClockTables.note.Goals as goal

pub returns-clause-noted : goal.returns-clause-noted
returns-clause-noted c =
    let inside = c.self.inside in
    let e = c.args.event.now in
    let t = thread_of e in
    let position = c.args.position in
    let s : ClockState = record { count = length inside.clock.items; known = numbers_of inside.known; by_others = numbers_of inside.by_others } in
    let own : t < s.count = subst (λ (r : ClockState). t < r.count) (sym c.self.view_is) c.requires.room.own in
    let back = with_items_is inside.clock c.join.new.clock (omega (arith, c.join.auto.clock, c.deref_mut.ensures.len)) in
    noted-tables s position e c.access-access.result c.access-access.ensures own c.deref_mut.result.now c.join.new.clock _ c.deref.result.now c.deref-3.result.now (ap length c.deref_mut.ensures.value) c.join.auto.clock c.join.ensures
    back c.deref.ensures.value c.deref-3.ensures.value c.args.self.now c.self.view_is (numbers_of c.note-2.new.self) (numbers_of c.note.new.self) c.note.ensures c.note-2.ensures
