use Rattle.std.proofs.Common.{ap, sym, ◌∙◌, refl}
use Rattle.std.specs.Prelude.{option_map}
use Rattle.velo_events.specs.declared.event.Kind.TheVariants.{Read}
use Rattle.velo_events.specs.declared.event.LockId.{LockId}
use Rattle.velo_filter.specs.Left.{Omitted}
use Rattle.velo_filter.specs.Tables.{left_of}
use Rattle.velo_delays.specs.declared.stuck.Awaited.{Awaited}
use Rattle.velo_delays.proofs.OnDeadlocks.{wanted-none, wanted-some, with_numbers-nil}
use Rattle.velo_delays.proofs.deadlocks.leave_out_wanted.Goals as goal
use Rattle.velo_delays.proofs.deadlocks.leave_out_wanted.Goals.{in-Some+in_ok-leave_out_lock, in_default}

pub loop-one-init : goal.loop-one-init
loop-one-init c = record { locks = with_numbers-nil (left_of c.args.done.now).locks }

abbrev none : Awaited
none = record { event = record { thread = record { 0 = 0 }; kind = Read (record { 0 = 0 }) 0 }; position = 0 }

pub loop-one-preserved : goal.loop-one-preserved
loop-one-preserved c =
    let test = (left_of c.args.done.now).locks in
    let old = (left_of c.loop-one.done).locks in
    let was = c.loop-one.invariant.locks in
    let more = c.loop-one-test.true in
    elim c.match-lock_wanted.branch [
      | in-Some+in_ok-leave_out_lock w ↦ rw w.done-is (record {
        locks = wanted-some test old _ c.args.waiting.now c.loop-one.one-index none more was w.in-Some.lock.0
            (sym c.lock_wanted.ensures ∙ ap (option_map (λ (m : LockId). m.0)) w.in-Some.is) (ap (λ (l : Omitted). l.locks) w.in_ok-leave_out_lock.ensures.ok);
      })
      | in_default w ↦ rw w.done-is (record { locks = wanted-none test old old c.args.waiting.now c.loop-one.one-index none more was c.lock_wanted.result w.in_default.not-Some c.lock_wanted.ensures refl })
    ]
