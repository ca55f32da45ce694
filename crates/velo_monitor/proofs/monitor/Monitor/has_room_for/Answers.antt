use Rattle.std.proofs.Common.{ap, ◌∙◌, length, subst}
use Rattle.std.specs.Prelude.{IsTrue, ◌↔◌}
use Rattle.velo_tables.specs.LastAccesses.{HasRoomFor}
use Rattle.velo_tables.proofs.OnSteps.{HasItsThreads-follows}
use Rattle.velo_monitor.specs.Watched.{Watched}
use Rattle.velo_monitor.proofs.monitor.Monitor.has_room_for.Goals as goal

pub returns : goal.returns
returns c bounds trace stands follows =
    let e = c.args.event.now in
    let its = HasItsThreads-follows bounds c.self.inside.tables trace e (ap (λ (w : Watched). length w.kept.threads) c.self.view_is ∙ stands.threads) follows in
    subst (λ (w : Watched). IsTrue c.has_room_for.result ↔ HasRoomFor w.kept e) c.self.view_is
    (λ found. record { own = its.own; beside = c.has_room_for.ensures.0 found }, λ room. c.has_room_for.ensures.1 room.beside)
