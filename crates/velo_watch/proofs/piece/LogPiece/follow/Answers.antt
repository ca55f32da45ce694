use Rattle.std.proofs.Common.{◌≡◌, ℕ, length, refl, ap, sym, subst, ◌∙◌}
use Rattle.velo_events.specs.declared.config.Config.{Config}
use Rattle.velo_world.specs.World.{WorldState}
use Rattle.velo_world.specs.declared.log_replay.LogReplayFault.{LogReplayFault}
use Rattle.velo_watch.specs.declared.piece.LogPiece.{LogPiece}
use Rattle.velo_watch.specs.Kept.{IsFaultBehind, WasCutInTime}
use Rattle.velo_watch.specs.Piece.{in_whole, moved_fault}
use Rattle.velo_watch.proofs.OnPieces.{piece_more, follows_alarm, fault_kept}
use Rattle.velo_watch.proofs.piece.LogPiece.follow.Goals as goal

pub returns-in-Ok-clause-outcome : goal.returns-in-Ok-clause-outcome
returns-in-Ok-clause-outcome c = λ whole none k in_time well.
    let old = c.args.self.now in
    let new : LogPiece = record { world = c.replay-came.new.self; shares = c.replay-came.new.shares; before = old.before; prologue = old.prologue } in
    follows_alarm whole c.args.event.now old new c.alarm.result
    (piece_more old new whole c.args.event.now c.in-Ok.ensures.outcome.0.acts.1.config c.in-Ok.ensures.outcome.1 refl refl k)
    c.alarm.ensures.alarm c.alarm.ensures.fault c.alarm.ensures.memory

pub returns-in-Err-clause-outcome : goal.returns-in-Err-clause-outcome
returns-in-Err-clause-outcome c = λ whole none k in_time well.
    let old = c.args.self.now in
    let same : length c.replay-came.new.self.log ≡ length old.world.log = ap (λ (w : WorldState). length w.log) c.in-Err.ensures.outcome.1 in
    let is : c.fault_in_whole.result ≡ moved_fault (in_whole old.before old.prologue (length old.world.log)) c.in-Err.fault =
    c.fault_in_whole.ensures ∙ ap (λ (n : ℕ). moved_fault (in_whole old.before old.prologue n) c.in-Err.fault) same in
    subst (λ (f : LogReplayFault). IsFaultBehind old.world.config whole c.args.event.now f) (sym is)
    (fault_kept old.world.config whole old.world.log old.before old.prologue c.args.event.now k in_time none well c.in-Err.fault c.in-Err.ensures.outcome.0)

pub returns-in-Ok-clause-in_time : goal.returns-in-Ok-clause-in_time
returns-in-Ok-clause-in_time c = λ whole was.
    let old = c.args.self.now in
    subst (λ (k : Config). WasCutInTime k whole old.before old.prologue) (sym c.in-Ok.ensures.outcome.0.acts.1.config) was

pub returns-in-Err-clause-in_time : goal.returns-in-Err-clause-in_time
returns-in-Err-clause-in_time c = λ whole was.
    let old = c.args.self.now in
    subst (λ (w : WorldState). WasCutInTime w.config whole old.before old.prologue) (sym c.in-Err.ensures.outcome.1) was
