use Rattle.std.proofs.Common.{ap, sym, ◌∙◌, get_or}
use Rattle.std.specs.Prelude.{option_map}
use Rattle.std.proofs.lemmas.Option.{slice_get-get_or}
use Rattle.velo_events.specs.declared.event.Kind.TheVariants.{Read}
use Rattle.velo_events.specs.declared.event.LockId.{LockId}
use Rattle.velo_filter.specs.Tables.{left_of}
use Rattle.velo_delays.specs.declared.stuck.Awaited.{Awaited}
use Rattle.velo_delays.proofs.OnDeadlocks.{has_new-lock}
use Rattle.velo_delays.proofs.deadlocks.has_new.Goals as goal

abbrev none : Awaited
none = record { event = record { thread = record { 0 = 0 }; kind = Read (record { 0 = 0 }) 0 }; position = 0 }

pub returns-then-not-has_lock : goal.returns-then-not-has_lock
returns-then-not-has_lock c = λ is.
    let events = c.args.waiting.now in
    let i = c.loop-one.one-index in
    has_new-lock (left_of c.args.done.now).locks events i (get_or events i none) (slice_get-get_or events i none c.loop-one-test.true) c.in-Some.lock.0
    (sym c.lock_wanted.ensures ∙ ap (option_map (λ (m : LockId). m.0)) c.in-Some.is) (sym c.has_lock.ensures ∙ c.if-not-has_lock.true)
