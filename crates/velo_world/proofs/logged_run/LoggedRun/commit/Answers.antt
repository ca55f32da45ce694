use Rattle.std.proofs.Common.{take, [], ◌∷◌, ◌++◌, subst, sym, ◌∙◌, arith}
use Rattle.std.specs.Prelude.{IsTrue, ◌↔◌}
use Rattle.velo_events.specs.Graph.{HasCycle}
use Rattle.velo_world.specs.World.{AlarmOf}
use Rattle.velo_world.proofs.OnAlarms.{AlarmOf-alarmed}
use Rattle.velo_world.proofs.OnLoggedRuns.{pushed-part}
use Rattle.std.proofs.lemmas.Grind.{common_steps, elements}
use Rattle.velo_world.proofs.logged_run.LoggedRun.commit.Goals as goal

pub returns-clause-replies : goal.returns-clause-replies
returns-clause-replies c =
    let log = c.args.self.now.log.events in
    let part = pushed-part log c.as_slice.result.now c.args.event c.len-position.result (c.as_slice.ensures ∙ c.push_reserved.ensures) c.len-position.ensures in
    record {
      position = c.len-position.ensures;
      value = c.value_read.ensures;
      alarmed = subst (λ b. IsTrue b ↔ HasCycle (log ++ c.args.event ∷ [])) (sym c.is_some-alarmed.ensures)
          (AlarmOf-alarmed _ c.take_in.new.self.alarm (subst (λ past. AlarmOf (past ++ c.args.event ∷ []) c.take_in.new.self.alarm) part (subst (λ e. AlarmOf (take c.len-position.result c.as_slice.result.now ++ e ∷ []) c.take_in.new.self.alarm) c.of.ensures c.take_in.ensures.follows.watched.alarm)));
    }

pub take_in-requires-clause-here : goal.take_in-requires-clause-here
take_in-requires-clause-here c = grind (arith, elements)

pub take_in-requires-clause-next : goal.take_in-requires-clause-next
take_in-requires-clause-next c = grind (arith, common_steps)

pub take_in-requires-clause-room : goal.take_in-requires-clause-room
take_in-requires-clause-room c = grind (arith, common_steps)

pub returns-clause-stands : goal.returns-clause-stands
returns-clause-stands c = grind (arith, common_steps)
