use Rattle.std.proofs.Common.{◌<◌, List, arith, length, sym, subst}
use Rattle.std.specs.Prelude.{All}
use Rattle.velo_events.specs.declared.event.Event.{Event}
use Rattle.velo_predict.specs.declared.waits.Waiting.{Waiting}
use Rattle.velo_delays.proofs.OnDeadlocks.{waiting_within}
use Rattle.velo_delays.proofs.stuck.judge_deadlock.Goals as goal

pub awaited_by-requires : goal.awaited_by-requires
awaited_by-requires c =
    subst (λ (ws : List Waiting). All (λ (w : Waiting). w.next < length c.as_slice.result.now) ws) (sym c.deref-2.ensures.value)
    (subst (λ (es : List Event). All (λ (w : Waiting). w.next < length es) c.in-Some.circle.items) (sym c.as_slice.ensures)
    (waiting_within c.args.rest.now.trace.events c.args.trace.events c.in-Some.circle.items (rw c.in-Some.is at c.in_ok-waits.ensures.circle)))
