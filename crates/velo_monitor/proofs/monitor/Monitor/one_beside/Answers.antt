use Rattle.std.proofs.Common.{◌≡◌, ◌++◌, Option, sym, ap, ◌∙◌, subst, arith}
use Rattle.std.specs.Option.{option_to_list}
use Rattle.velo_arena.specs.declared.step.Step.{Step}
use Rattle.velo_events.specs.Event.{thread_of}
use Rattle.velo_events.specs.Place.{LastOf, LastWrite}
use Rattle.velo_tables.specs.LastAccesses.{LastAccesses, entry, CoverReaders}
use Rattle.velo_monitor.specs.Watched.{Watched}
use Rattle.velo_monitor.proofs.OnNoReads.{one-beside}
use Rattle.velo_monitor.proofs.monitor.Monitor.one_beside.Goals as goal

pub returns-else-readers-ne0 : goal.returns-else-readers-ne0
returns-else-readers-ne0 c =
    let own = entry c.args.self.now.kept (LastOf (thread_of c.args.event.now)) in
    let cell = c.in-Exclusive.cell in
    let kept : c.self.inside.tables ≡ c.args.self.now.kept = ap (λ (w : Watched). w.kept) c.self.view_is in
    let none : c.readers.result ≡ 0 = omega (arith, c.if-readers-ne0.false) in
    let covered = subst (λ (k : LastAccesses). CoverReaders k cell.0 0) kept (subst (CoverReaders c.self.inside.tables cell.0) none c.readers.ensures) in
    let write = c.last_write.ensures ∙ ap (λ (k : LastAccesses). entry k (LastWrite cell.0)) kept in
    one-beside c.args.self.now.kept c.args.event.now cell (sym c.access.ensures ∙ c.in-Exclusive.is) covered
    ∙ ap (λ (o : Option Step). option_to_list own ++ option_to_list o) (sym write)
