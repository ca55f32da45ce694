use Rattle.std.proofs.Common.{◌≡◌, ◌∙◌, sym, ap, inl, inr}
use Rattle.std.proofs.lemmas.Result.{IfOk-weaker, MatchResult-weaker}
use Rattle.velo_world.specs.World.{WorldState}
use Rattle.velo_runtime.specs.Rooms.{RoomState}
use Rattle.velo_runtime.proofs.OnConfigs.{one_config, other_config}
use Rattle.velo_runtime.proofs.room.Room.close_as.Goals as goal

pub returns-then-ne-clause-cause : goal.returns-then-ne-clause-cause
returns-then-ne-clause-cause c =
    let own = c.config.ensures ∙ ap (λ (room : RoomState). room.world.config) c.self.view_is in
    inl (λ same. other_config _ _ _ c.ne.ensures c.if-ne.true (own ∙ same))

pub returns-clause-config : goal.returns-clause-config
returns-clause-config c =
    let own = sym (ap (λ (room : RoomState). room.world.config) c.self.view_is) ∙ (sym c.config.ensures ∙ one_config _ _ _ c.ne.ensures c.if-ne.false) in
    IfOk-weaker c.close.result (λ closed. closed ≡ c.args.self.world) (λ closed. closed.config ≡ c.args.config) (λ closed is. ap (λ (w : WorldState). w.config) is ∙ own) c.close.ensures.closed

pub returns-clause-cause : goal.returns-clause-cause
returns-clause-cause c = MatchResult-weaker c.close.result c.close.ensures.cause (λ closed any. any) (λ back none. inr none)
