use Rattle.std.proofs.Common.{◌≡◌, length, refl, sym, ap, ◌∙◌, subst, arith}
use Rattle.velo_heap.specs.Contents.{bounds_of}
use Rattle.velo_search.specs.Parts.{rest_by, part_at}
use Rattle.velo_search.specs.Search.{IsCleanBy}
use Rattle.velo_search.specs.Trail.{AlarmsGoOn, IsNoted, IsReachedBy, alarms_of}
use Rattle.velo_search.proofs.OnKept.{All-kept}
use Rattle.velo_search.proofs.OnTried.{tried-idle, tried-waits, tried-refused, tried-acts}
use Rattle.velo_search.proofs.OnTrails.{alarms-next, alarms-same, all-noted_on, noted-on, goes-same, goes-next, goes-kept, kept-reached, reached-plain, reached-within}
use Rattle.velo_search.proofs.searching.look.Goals as goal

pub returns-in-Idle-clause-tried : goal.returns-in-Idle-clause-tried
returns-in-Idle-clause-tried c = λ start tried.
    tried-idle (bounds_of c.args.state.now.heap) c.args.scripts.now.kinds (rest_by (part_at c.args.scripts.now.parts)) c.args.state.now c.args.thread.0 start c.args.next.now.states.items c.args.seen.now c.in-Idle.ensures tried

pub returns-in-Waits-clause-tried : goal.returns-in-Waits-clause-tried
returns-in-Waits-clause-tried c = λ start tried.
    tried-waits (bounds_of c.args.state.now.heap) c.args.scripts.now.kinds (rest_by (part_at c.args.scripts.now.parts)) c.args.state.now c.args.thread.0 start c.args.next.now.states.items c.args.seen.now c.in-Waits.ensures tried

pub returns-in-Refused-clause-tried : goal.returns-in-Refused-clause-tried
returns-in-Refused-clause-tried c = λ start tried.
    tried-refused (bounds_of c.args.state.now.heap) c.args.scripts.now.kinds (rest_by (part_at c.args.scripts.now.parts)) c.args.state.now c.args.thread.0 start c.args.next.now.states.items c.args.seen.now c.in-Refused.ensures tried

pub returns-in-Idle-clause-alarms : goal.returns-in-Idle-clause-alarms
returns-in-Idle-clause-alarms c = alarms-same (bounds_of c.args.state.now.heap) c.args.scripts.now.kinds (rest_by (part_at c.args.scripts.now.parts)) c.args.trail.now c.args.trail.now refl

pub returns-in-Idle-clause-noted : goal.returns-in-Idle-clause-noted
returns-in-Idle-clause-noted c = λ here all. all

pub returns-in-Idle-clause-goes_on : goal.returns-in-Idle-clause-goes_on
returns-in-Idle-clause-goes_on c = goes-same c.args.trail.now c.args.trail.now refl

pub returns-in-Waits-clause-alarms : goal.returns-in-Waits-clause-alarms
returns-in-Waits-clause-alarms c = alarms-same (bounds_of c.args.state.now.heap) c.args.scripts.now.kinds (rest_by (part_at c.args.scripts.now.parts)) c.args.trail.now c.args.trail.now refl

pub returns-in-Waits-clause-noted : goal.returns-in-Waits-clause-noted
returns-in-Waits-clause-noted c = λ here all. all

pub returns-in-Waits-clause-goes_on : goal.returns-in-Waits-clause-goes_on
returns-in-Waits-clause-goes_on c = goes-same c.args.trail.now c.args.trail.now refl

pub returns-in-Refused-clause-alarms : goal.returns-in-Refused-clause-alarms
returns-in-Refused-clause-alarms c = alarms-same (bounds_of c.args.state.now.heap) c.args.scripts.now.kinds (rest_by (part_at c.args.scripts.now.parts)) c.args.trail.now c.args.trail.now refl

pub returns-in-Refused-clause-noted : goal.returns-in-Refused-clause-noted
returns-in-Refused-clause-noted c = λ here all. all

pub returns-in-Refused-clause-goes_on : goal.returns-in-Refused-clause-goes_on
returns-in-Refused-clause-goes_on c = goes-same c.args.trail.now c.args.trail.now refl

pub follow-requires-clause-next : goal.follow-requires-clause-next
follow-requires-clause-next c = λ log run stands. (c.in-May.ensures log run stands).1

pub note_closing-requires : goal.note_closing-requires
note_closing-requires c =
    reached-within (bounds_of c.args.state.now.heap) c.args.scripts.now.kinds (rest_by (part_at c.args.scripts.now.parts)) c.follow.new.trail.steps.items c.in_ok-after-in-May.after c.in_ok-after-in-May.ensures.reached

pub returns-in_ok-keep-in-May-clause-goes_on : goal.returns-in_ok-keep-in-May-clause-goes_on
returns-in_ok-keep-in-May-clause-goes_on c =
    let mid = c.note_closing.new.trail in
    goes-kept c.args.trail.now mid c.keep.new.trail c.len-count.result c.len-count.ensures
    (goes-next c.args.trail.now c.follow.new.trail mid c.in_ok-after-in-May.ensures.goes_on c.in_ok-note_closing-in-May.ensures.goes_on)
    c.args.next.now.states.items c.keep.new.next.states.items c.in_ok-keep-in-May.ensures.steps c.in_ok-keep-in-May.ensures.shown c.in_ok-keep-in-May.ensures.first

pub returns-in_ok-keep-in-May-clause-reached : goal.returns-in_ok-keep-in-May-clause-reached
returns-in_ok-keep-in-May-clause-reached c = λ all.
    let bounds = bounds_of c.args.state.now.heap in
    let scripts = c.args.scripts.now.kinds in
    let rest = rest_by (part_at c.args.scripts.now.parts) in
    let mid = c.note_closing.new.trail in
    let after = c.in_ok-after-in-May.after in
    kept-reached c.args.trail.now mid c.keep.new.trail c.len-count.result c.len-count.ensures
    (goes-next c.args.trail.now c.follow.new.trail mid c.in_ok-after-in-May.ensures.goes_on c.in_ok-note_closing-in-May.ensures.goes_on)
    bounds scripts rest c.args.next.now.states.items c.keep.new.next.states.items after c.in_ok-keep-in-May.ensures.members
    (subst (λ xs. IsReachedBy bounds scripts rest xs after) (sym c.note_closing.ensures.steps) c.in_ok-after-in-May.ensures.reached)
    c.in_ok-keep-in-May.ensures.steps all

pub returns-in_ok-keep-in-May-clause-tried : goal.returns-in_ok-keep-in-May-clause-tried
returns-in_ok-keep-in-May-clause-tried c = λ start tried.
    let bounds = bounds_of c.args.state.now.heap in
    let scripts = c.args.scripts.now.kinds in
    let rest = rest_by (part_at c.args.scripts.now.parts) in
    let state = c.args.state.now in
    let r = c.requires.reached in
    let e = c.in-May.event in
    let own = (c.in-May.ensures r.log r.run r.stands).0 in
    tried-acts bounds scripts rest state c.args.thread.0 start c.args.next.now.states.items c.keep.new.next.states.items c.args.seen.now e c.in_ok-after-in-May.after own
    (λ log run stands. (c.in-May.ensures log run stands).1)
    c.in_ok-keep-in-May.ensures.members c.in_ok-keep-in-May.ensures.before c.in_ok-keep-in-May.ensures.there
    (reached-plain bounds scripts rest c.follow.new.trail.steps.items c.in_ok-after-in-May.after c.in_ok-after-in-May.ensures.reached)
    (λ n fault clean. subst (λ u. IsCleanBy bounds scripts rest n fault state u) own (c.in_ok-after-in-May.ensures.leads n fault clean))
    tried

pub returns-in_ok-keep-in-May-clause-alarms : goal.returns-in_ok-keep-in-May-clause-alarms
returns-in_ok-keep-in-May-clause-alarms c =
    let bounds = bounds_of c.args.state.now.heap in
    let scripts = c.args.scripts.now.kinds in
    let rest = rest_by (part_at c.args.scripts.now.parts) in
    let followed = c.in_ok-after-in-May.ensures in
    let closing = c.in_ok-note_closing-in-May.ensures in
    let kept = c.in_ok-keep-in-May.ensures in
    alarms-next bounds scripts rest c.args.trail.now c.follow.new.trail c.keep.new.trail followed.goes_on.first
    (alarms-same bounds scripts rest c.args.trail.now c.follow.new.trail followed.alarms)
    (alarms-next bounds scripts rest c.follow.new.trail c.note_closing.new.trail c.keep.new.trail closing.goes_on.first
    (closing.alarms bounds scripts rest followed.reached)
    (alarms-same bounds scripts rest c.note_closing.new.trail c.keep.new.trail (ap alarms_of kept.shown)))

pub returns-in_ok-keep-in-May-clause-noted : goal.returns-in_ok-keep-in-May-clause-noted
returns-in_ok-keep-in-May-clause-noted c = λ here all.
    let bounds = bounds_of c.args.state.now.heap in
    let scripts = c.args.scripts.now.kinds in
    let rest = rest_by (part_at c.args.scripts.now.parts) in
    let old = c.args.trail.now in
    let mid = c.follow.new.trail in
    let noting = c.note_closing.new.trail in
    let now = c.keep.new.trail in
    let after = c.in_ok-after-in-May.after in
    let followed = c.in_ok-after-in-May.ensures in
    let closing = c.in_ok-note_closing-in-May.ensures in
    let kept = c.in_ok-keep-in-May.ensures in
    let goes : AlarmsGoOn bounds scripts rest mid noting = closing.alarms bounds scripts rest followed.reached in
    let same : length (alarms_of mid.shown) ≡ length (alarms_of old.shown) = ap length followed.alarms in
    let kept_same : length (alarms_of now.shown) ≡ length (alarms_of noting.shown) = ap (λ x. length (alarms_of x)) kept.shown in
    let was : IsNoted noting after = closing.noted (λ alarmed. record {
      some = λ first _. let some = here.some (sym followed.goes_on.first ∙ first) (sym c.is_alarmed.ensures.value ∙ alarmed) in omega (arith, some, same);
    }) in
    All-kept (IsNoted now) c.args.next.now.states.items c.keep.new.next.states.items after kept.members
    (all-noted_on old now c.args.next.now.states.items (kept.first ∙ (closing.goes_on.first ∙ followed.goes_on.first)) (omega (arith, same, goes.more, kept_same)) all)
    (noted-on noting now after kept.first (omega (arith, kept_same)) was)
