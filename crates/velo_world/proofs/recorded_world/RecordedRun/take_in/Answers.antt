use Rattle.std.proofs.Common.{[], ◌∷◌, ◌++◌, refl, ◌∙◌, subst}
use Rattle.velo_world.specs.LogReplay.{HasSeen}
use Rattle.velo_world.proofs.OnComing.{is_quiet, quiet_next, stays_quiet}
use Rattle.velo_world.proofs.recorded_world.RecordedRun.take_in.Goals as goal

pub observe-closing-requires-clause-stands : goal.observe-closing-requires-clause-stands
observe-closing-requires-clause-stands c = rw c.as_slice.ensures (is_quiet c.args.self.now c.requires.stands c.requires.quiet)

pub observe-closing-requires-clause-flawless : goal.observe-closing-requires-clause-flawless
observe-closing-requires-clause-flawless c = rw c.as_slice.ensures c.requires.flawless

pub observe-closing-requires-clause-short : goal.observe-closing-requires-clause-short
observe-closing-requires-clause-short c = rw c.as_slice.ensures c.requires.short

pub observe-closing-requires-clause-slot : goal.observe-closing-requires-clause-slot
observe-closing-requires-clause-slot c = rw c.as_slice.ensures c.requires.slot

pub append-requires-clause-stands : goal.append-requires-clause-stands
append-requires-clause-stands c = rw (← c.as_slice.ensures) c.observe-closing.ensures.entered

pub returns-in-None-clause-stands : goal.returns-in-None-clause-stands
returns-in-None-clause-stands c =
    let past = c.as_slice.result.now in
    let watched = subst (HasSeen c.args.self.now.config c.observe-closing.new.self.monitor past c.args.event.now) c.in-None.is c.observe-closing.ensures.seen in
    quiet_next c.append.new.self c.observe-closing.new.self.monitor (past ++ c.args.event.now ∷ []) (c.append.ensures.alarm ∙ c.requires.quiet) c.append.ensures.stands (rw c.append.ensures.config watched)
    (rw (c.append.ensures.log, c.as_slice.ensures, c.event.ensures) refl) c.append.ensures.monitor

pub raise_alarm-requires-clause-stands : goal.raise_alarm-requires-clause-stands
raise_alarm-requires-clause-stands c =
    let past = c.as_slice.result.now in
    let seen = subst (HasSeen c.args.self.now.config c.observe-closing.new.self.monitor past c.args.event.now) c.in-Some.is c.observe-closing.ensures.seen in
    stays_quiet c.args.self.now _ past c.requires.stands refl refl refl c.as_slice.ensures c.observe-closing.ensures.entered seen.2

pub raise_alarm-requires-clause-closes : goal.raise_alarm-requires-clause-closes
raise_alarm-requires-clause-closes c =
    let past = c.as_slice.result.now in
    let seen = subst (HasSeen c.args.self.now.config c.observe-closing.new.self.monitor past c.args.event.now) c.in-Some.is c.observe-closing.ensures.seen in
    rw (c.event-in-Some.ensures, ← c.as_slice.ensures) seen.0

pub raise_alarm-requires-clause-last : goal.raise_alarm-requires-clause-last
raise_alarm-requires-clause-last c =
    let past = c.as_slice.result.now in
    let seen = subst (HasSeen c.args.self.now.config c.observe-closing.new.self.monitor past c.args.event.now) c.in-Some.is c.observe-closing.ensures.seen in
    rw (← c.as_slice.ensures) seen.1
