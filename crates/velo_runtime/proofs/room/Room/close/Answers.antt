use Rattle.std.proofs.Common.{sym, ap, ◌∙◌, subst}
use Rattle.std.proofs.lemmas.Bool.{false≢true}
use Rattle.velo_world.specs.World.{WorldState}
use Rattle.velo_runtime.specs.Rooms.{RoomState}
use Rattle.velo_runtime.specs.Seats.{AreSeatsOf}
use Rattle.velo_runtime.specs.Places.{AreTogether}
use Rattle.velo_runtime.proofs.Places.{AreTogether-start, AreSeatsOf-start}
use Rattle.velo_runtime.proofs.room.Room.close.Goals as goal

pub returns-then-not-put_all-clause-cause : goal.returns-then-not-put_all-clause-cause
returns-then-not-put_all-clause-cause c are =
    let world = ap (λ (room : RoomState). room.world) c.self.view_is in
    let all = AreTogether-start c.self.inside.world c.args.seats.items (subst (λ (w : WorldState). AreSeatsOf w c.args.seats.items) (sym world) are) in
    false≢true (sym c.if-not-put_all.true ∙ c.put_all.ensures.all.1 (subst (λ ps. AreTogether c.self.inside.world ps c.args.seats.items) (sym c.self.invariant.0) all))

pub returns-clause-all : goal.returns-clause-all
returns-clause-all c =
    let world = ap (λ (room : RoomState). room.world) c.self.view_is in
    let all = subst (λ ps. AreTogether c.self.inside.world ps c.args.seats.items) c.self.invariant.0 (c.put_all.ensures.all.0 c.if-not-put_all.false) in
    subst (λ (w : WorldState). AreSeatsOf w c.args.seats.items) world (AreSeatsOf-start c.self.inside.world c.args.seats.items all)
