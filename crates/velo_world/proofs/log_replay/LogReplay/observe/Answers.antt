use Rattle.std.proofs.Common.{length, refl, ◌∙◌, arith}
use Rattle.velo_traces.proofs.OnFlaws.{MayFollow-from_no_flaw}
use Rattle.velo_world.proofs.OnFirstCycle.{ClosesFirst-push}
use Rattle.velo_world.proofs.log_replay.LogReplay.observe.Goals as goal

pub observe_resolved-requires : goal.observe_resolved-requires
observe_resolved-requires c =
    let watched = c.requires.stands.watched.stands in
    record {
      bounds = c.args.config.now.bounds;
      trace = c.args.past.now;
      stands = watched;
      at_end = refl;
      within = (let short = c.requires.short in let few = c.args.config.now.few_events in omega (arith, short, few));
      follows = MayFollow-from_no_flaw _ _ c.args.event.now watched.well_formed c.requires.flawless;
      room = c.requires.room;
      slot = c.requires.slot.slot;
    }

pub returns-in-Quiet-clause-seen : goal.returns-in-Quiet-clause-seen
returns-in-Quiet-clause-seen c =
    let watched = c.requires.stands.watched in
    let follows = MayFollow-from_no_flaw _ _ c.args.event.now watched.stands.well_formed c.requires.flawless in
    let seen = c.in-Quiet.ensures.seen _ _ watched.stands refl follows in
    record { stands = seen.1; nodes = c.observe_resolved.ensures.limit ∙ watched.nodes }

pub returns-in-Closes-clause-seen : goal.returns-in-Closes-clause-seen
returns-in-Closes-clause-seen c =
    let watched = c.requires.stands.watched in
    let past = c.args.past.now in
    let follows = MayFollow-from_no_flaw _ _ c.args.event.now watched.stands.well_formed c.requires.flawless in
    let seen = c.in-Closes.ensures.seen _ _ watched.stands refl follows in (
      ClosesFirst-push past c.args.event.now (record { position = length past; transaction = c.in-Closes.transaction }) watched.stands.acyclic seen.0 refl seen.1,
      refl,
      record { stands = seen.2; nodes = c.observe_resolved.ensures.limit ∙ watched.nodes },
    )
