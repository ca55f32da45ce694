use Rattle.std.proofs.Common.{◌+◌, length, take_all, sym, ◌∙◌, subst, arith}
use Rattle.velo_world.specs.LogReplay.{ComesTo, IsQuiet}
use Rattle.velo_world.proofs.log_replay.LogReplay.replay_to_cycle.Goals as goal

pub replay_next-requires-clause-stands : goal.replay_next-requires-clause-stands
replay_next-requires-clause-stands c = c.loop-position.invariant.stands

pub loop-position-preserved : goal.loop-position-preserved
loop-position-preserved c = record { stands = subst (ComesTo c.args.config.now c.args.events.now (c.loop-position.position + 1) c.replay_next.new.self) c.in_default.is c.in_ok-closing.ensures.ok }

pub returns-clause-ok : goal.returns-clause-ok
returns-clause-ok c =
    let events = c.args.events.now in
    subst (IsQuiet c.args.config.now c.loop-position.self) (take_all c.loop-position.position events c.loop-position-test.false ∙ sym (take_all (length events) events (omega arith))) c.loop-position.invariant.stands
