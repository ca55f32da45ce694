use Rattle.std.proofs.Common.{◌≡◌, ◌<◌, sym, ap, ◌∙◌, subst, arith}
use Rattle.velo_events.specs.declared.event.Event.{Event}
use Rattle.velo_events.specs.declared.event.ThreadId.{ThreadId}
use Rattle.velo_events.specs.Event.{thread_of, is_begin}
use Rattle.velo_events.specs.Heap.{depth_in}
use Rattle.velo_monitor.specs.Changed.{depth_of, AfterOutside, BeginsBlock}
use Rattle.velo_monitor.proofs.OnCounts.{depth-now}
use Rattle.velo_monitor.proofs.OnCurrent.{current-node, inside-depth}
use Rattle.velo_monitor.proofs.OnInsideSeen.{seen-inside, seen-quiet}
use Rattle.velo_monitor.proofs.OnOutsideSeen.{not-begin, no-cycle, stands-begins, stands-after_outside}
use Rattle.velo_monitor.proofs.monitor.Monitor.take_in.Goals as goal

pub observe_inside-requires-clause-current : goal.observe_inside-requires-clause-current
observe_inside-requires-clause-current c =
    let next = c.requires in
    let now = depth-now next.bounds next.trace c.args.event.now next.stands.well_formed next.follows c.args.self.now.depths next.stands.depths in
    let deep : 0 < depth_in next.trace (thread_of c.args.event.now) = omega (arith, now, (c.depth.ensures ∙ ap (λ (t : ThreadId). depth_of c.args.self.now t.0) c.thread.ensures), c.if-depth-gt0.true) in
    let node = current-node next.bounds c.args.self.now next.trace c.args.event.now next.stands next.follows (inside-depth next.bounds next.trace c.args.event.now next.stands.well_formed deep) in
    (node.0, node.1, node.2)

pub returns-then-depth-gt0-clause-seen : goal.returns-then-depth-gt0-clause-seen
returns-then-depth-gt0-clause-seen c bounds trace stands at follows =
    let now = depth-now bounds trace c.args.event.now stands.well_formed follows c.args.self.now.depths stands.depths in
    let deep : 0 < depth_in trace (thread_of c.args.event.now) = omega (arith, now, (c.depth.ensures ∙ ap (λ (t : ThreadId). depth_of c.args.self.now t.0) c.thread.ensures), c.if-depth-gt0.true) in
    seen-inside bounds c.args.self.now trace c.args.event.now stands follows deep c.observe_inside.result c.observe_inside.new.self c.observe_inside.ensures.inside

pub returns-then-depth-gt0-clause-nothing_left : goal.returns-then-depth-gt0-clause-nothing_left
returns-then-depth-gt0-clause-nothing_left c =
    let next = c.requires in
    seen-quiet next.bounds c.args.self.now next.trace c.args.event.now c.observe_inside.result c.observe_inside.new.self (returns-then-depth-gt0-clause-seen c next.bounds next.trace next.stands next.at_end next.follows)

pub returns-in-Begin-clause-seen : goal.returns-in-Begin-clause-seen
returns-in-Begin-clause-seen c bounds trace stands at follows =
    let now = depth-now bounds trace c.args.event.now stands.well_formed follows c.args.self.now.depths stands.depths in
    let shallow : depth_in trace (thread_of c.args.event.now) ≡ 0 = omega (arith, now, (c.depth.ensures ∙ ap (λ (t : ThreadId). depth_of c.args.self.now t.0) c.thread.ensures), c.if-depth-gt0.false) in
    (no-cycle bounds c.args.self.now trace c.args.event.now stands follows shallow, stands-begins bounds c.args.self.now trace c.args.event.now stands follows shallow c.begin_block.new.self c.args.position at (ap (λ (e : Event). is_begin e.kind) (sym c.event-event.ensures) ∙ ap is_begin c.in-Begin.is) (subst (λ e. BeginsBlock c.args.self.now c.args.position e c.begin_block.new.self) c.event-event.ensures c.begin_block.ensures.begins))

pub returns-in-Begin-clause-nothing_left : goal.returns-in-Begin-clause-nothing_left
returns-in-Begin-clause-nothing_left c = let next = c.requires in (returns-in-Begin-clause-seen c next.bounds next.trace next.stands next.at_end next.follows).1.collected

pub returns-in_default-clause-seen : goal.returns-in_default-clause-seen
returns-in_default-clause-seen c bounds trace stands at follows =
    let now = depth-now bounds trace c.args.event.now stands.well_formed follows c.args.self.now.depths stands.depths in
    let shallow : depth_in trace (thread_of c.args.event.now) ≡ 0 = omega (arith, now, (c.depth.ensures ∙ ap (λ (t : ThreadId). depth_of c.args.self.now t.0) c.thread.ensures), c.if-depth-gt0.false) in
    (no-cycle bounds c.args.self.now trace c.args.event.now stands follows shallow, stands-after_outside bounds c.args.self.now trace c.args.event.now stands follows shallow (ap (λ (e : Event). is_begin e.kind) (sym c.event-event.ensures) ∙ not-begin _ c.in_default.not-Begin) c.observe_outside.new.self c.args.position at (subst (λ e. AfterOutside c.args.self.now c.args.position e c.observe_outside.new.self) c.event-event.ensures c.observe_outside.ensures.outside))

pub returns-in_default-clause-nothing_left : goal.returns-in_default-clause-nothing_left
returns-in_default-clause-nothing_left c = let next = c.requires in (returns-in_default-clause-seen c next.bounds next.trace next.stands next.at_end next.follows).1.collected
