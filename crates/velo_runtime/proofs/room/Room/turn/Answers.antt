use Rattle.std.proofs.Common.{◌∙◌, ap, set}
use Rattle.velo_ledger.specs.Views.{Holding}
use Rattle.velo_runtime.specs.Rooms.{RoomState}
use Rattle.velo_runtime.proofs.OnRefusals.{acts-there}
use Rattle.velo_runtime.proofs.OnTurns.{AreWaitsWithin-set, takes-turn}
use Rattle.velo_runtime.proofs.room.Room.turn.Goals as goal

pub turn_after-turn-requires : goal.turn_after-turn-requires
turn_after-turn-requires c = acts-there _ _ _ _ _ _ c.act-outcome.ensures

pub invariant_of-self : goal.invariant_of-self
invariant_of-self c =
    let bounds = ap (λ (room : RoomState). room.world.config.bounds) c.self.view_is in
    (c.self.invariant.0, AreWaitsWithin-set _ _ _ _ c.self.invariant.1 (rw bounds c.turn_after-turn.ensures.there))

pub returns : goal.returns
returns c =
    let own = c.thread-thread.ensures ∙ ap (λ (share : Holding). share.thread) c.seat.view_is in
    let world = ap (λ (room : RoomState). room.world) c.self.view_is in
    let waits = ap (λ (room : RoomState). set room.waits c.from.result c.turn_after-turn.result.1) c.self.view_is in
    takes-turn c.args.self.now c.act-outcome.new.self _ c.args.seat.now c.act-outcome.new.seat c.args.action c.act-outcome.result c.turn_after-turn.result.0 c.turn_after-turn.result.1 c.thread-thread.result c.from.result c.act-outcome.ensures own c.from.ensures c.turn_after-turn.ensures.turn world waits
