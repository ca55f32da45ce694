use Rattle.std.proofs.Common.{get_or, arith}
use Rattle.std.proofs.lemmas.Option.{slice_get-get_or}
use Rattle.velo_events.specs.declared.event.Event.{Event}
use Rattle.velo_events.specs.declared.event.Kind.TheVariants.{Read}
use Rattle.velo_monitor.proofs.monitor.tests.follow.Goals as goal

-- what stands past the end of the events
abbrev blank : Event
blank = record { thread = record { 0 = 0 }; kind = Read (record { 0 = 0 }) 0 }

pub observe-answer-requires-clause-follows : goal.observe-answer-requires-clause-follows
observe-answer-requires-clause-follows g c =
    let events = c.args.events.now in
    let i = c.loop-i.i-counter in
    c.requires.well_formed.each i (get_or events i blank) (slice_get-get_or events i blank (omega (arith, c.loop-i-test.true)))
