use Rattle.std.proofs.Common.{◌<◌, length, get_or, sym, ap, ◌∙◌, refl, arith}
use Rattle.std.specs.Prelude.{if◌then◌else◌}
use Rattle.velo_events.specs.Event.{is_on_share, is_acquire_shared}
use Rattle.velo_events.specs.Heap.{latest}
use Rattle.velo_events.proofs.OnTraces.{shares_in-next}
use Rattle.velo_traces.proofs.Past.{past}
use Rattle.velo_traces.proofs.judge.shares_in.Goals as goal

pub loop-event-init : goal.loop-event-init
unfolding latest
loop-event-init c = refl

pub loop-event-preserved : goal.loop-event-preserved
loop-event-preserved c =
    let i = c.loop-event.event-index in
    let within : i < length c.args.events.now = omega arith in
    let e = get_or c.args.events.now i past in
    c.share_after-share.ensures
    ∙ (ap (λ b. if is_on_share c.args.m.0 c.args.t.0 e then is_acquire_shared e.kind else b) c.loop-event.invariant
    ∙ sym (shares_in-next c.args.events.now c.args.m.0 c.args.t.0 i past within))
