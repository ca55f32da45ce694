use Rattle.std.proofs.Common.{◌≡◌, ◌<◌, ◌++◌, ◌∷◌, [], length, Ok, ap, subst, sym, ◌∙◌, arith}
use Rattle.std.specs.Prelude.{◌&&◌}
use Rattle.std.proofs.lemmas.Result.{err_from_is_err_and}
use Rattle.velo_events.specs.Meaning.{action_of}
use Rattle.velo_events.specs.WellFormed.{MayFollow}
use Rattle.velo_traces.proofs.OnFlaws.{MayFollow-from_no_flaw}
use Rattle.velo_world.specs.World.{WorldState, Replies, meaning}
use Rattle.velo_world.proofs.OnLoggedRuns.{well_formed-logged}
use Rattle.velo_world.proofs.OnLogReplays.{flaw-by, meaning-flawless}
use Rattle.velo_world.proofs.logged_run.LoggedRun.replay.Goals as goal

pub make_room-requires-clause-follows : goal.make_room-requires-clause-follows
make_room-requires-clause-follows c =
    MayFollow-from_no_flaw _ _ c.args.event.now (well_formed-logged _ c.requires.stands) (flaw-by _ _ _ c.args.event.now c.requires.stands.bounds (c.in_ok-judge.ensures.flawless _ c.requires.stands.analysis.heap))

pub commit-requires-clause-follows : goal.commit-requires-clause-follows
commit-requires-clause-follows c =
    subst (λ (w : WorldState). MayFollow w.config.bounds w.log c.args.event.now) (sym c.make_room.ensures.same)
    (MayFollow-from_no_flaw _ _ c.args.event.now (well_formed-logged _ c.requires.stands) (flaw-by _ _ _ c.args.event.now c.requires.stands.bounds (c.in_ok-judge.ensures.flawless _ c.requires.stands.analysis.heap)))

pub returns-in_err-judge-clause-fault : goal.returns-in_err-judge-clause-fault
returns-in_err-judge-clause-fault c =
    let failed = err_from_is_err_and c.from_residual.result c.from_residual.ensures.1 in
    rw (failed.1, failed.2) (c.in_err-judge.ensures.fault _ c.requires.stands.analysis.heap c.len.ensures)

pub returns-in-Ok-clause-adds : goal.returns-in-Ok-clause-adds
returns-in-Ok-clause-adds c =
    let old = c.args.self.now in let event = c.args.event.now in let reply = c.commit.result in
    let same = c.make_room.ensures.same in
    let flawless = flaw-by _ _ _ event c.requires.stands.bounds (c.in_ok-judge.ensures.flawless _ c.requires.stands.analysis.heap) in
    let short : length old.log.events < old.config.events = let room = c.in_ok-judge.ensures.short in omega (arith, room, c.len.ensures) in
    record {
      due = subst (λ halted. meaning (record { config = old.config; halted = halted; log = old.log.events }) event.thread (action_of event.kind) ≡ Ok event) (sym c.requires.live) (meaning-flawless old.config old.log.events event flawless short);
      config = c.commit.ensures.config ∙ ap (λ (w : WorldState). w.config) same;
      log = c.commit.ensures.log ∙ ap (λ (w : WorldState). w.log ++ event ∷ []) same;
      halted = c.commit.ensures.halted ∙ ap (λ (w : WorldState). w.config.stop && reply.alarmed) same;
      replies = subst (λ (w : WorldState). Replies w.log event reply) same c.commit.ensures.replies;
    }
