use Rattle.std.proofs.Common.{subst}
use Rattle.velo_world.specs.Analysis.{HasRoomForNext, IsAnalysisOf}
use Rattle.velo_world.proofs.logged_run.LoggedRun.make_room.Goals as goal

pub returns-in-Ok-reserve_for-clause-room : goal.returns-in-Ok-reserve_for-clause-room
returns-in-Ok-reserve_for-clause-room c =
    let log = c.args.self.now.log.events in
    let stands = subst (IsAnalysisOf c.make_node_room.new.self) c.as_slice.ensures c.make_node_room.ensures.stands in
    rw c.reserve_one.ensures.events
    (subst (HasRoomForNext c.reserve_for.new.self log) c.of.ensures
    (c.in-Ok-reserve_for.ensures.room log stands (rw (c.make_node_room.ensures.heap, c.requires.stands.bounds, c.of.ensures) c.requires.follows) (rw (c.of.ensures, ← c.as_slice.ensures) c.in-Ok.ensures.slot)))
