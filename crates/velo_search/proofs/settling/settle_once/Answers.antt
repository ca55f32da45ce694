use Rattle.std.proofs.Common.{◌≡◌, false, Some, refl, sym, ap, ◌∙◌, subst}
use Rattle.std.specs.Prelude.{slice_get}
use Rattle.std.specs.Option.{option_map_or}
use Rattle.velo_events.specs.Tally.{events_of}
use Rattle.velo_heap.specs.Contents.{bounds_of}
use Rattle.velo_search.specs.Parts.{rest_by, part_at}
use Rattle.velo_search.specs.Free.{is_free_at, IsFreeAt}
use Rattle.velo_search.specs.Runs.{script_of}
use Rattle.velo_search.proofs.OnFreeEvents.{settles_free, next-reached, counted-next}
use Rattle.velo_search.proofs.OnRuns.{IsRunOf-next}
use Rattle.velo_search.proofs.OnTrails.{reached-next, reached-within, settles_by-same}
use Rattle.velo_search.proofs.settling.settle_once.Goals as goal

pub returns-then-not-is_free : goal.returns-then-not-is_free
returns-then-not-is_free c =
    settles_by-same (bounds_of c.args.state.now.heap) c.args.scripts.now.kinds (rest_by (part_at c.args.scripts.now.parts)) c.args.trail.now c.args.state.now c.requires.reached

pub returns-in_default : goal.returns-in_default
returns-in_default c =
    settles_by-same (bounds_of c.args.state.now.heap) c.args.scripts.now.kinds (rest_by (part_at c.args.scripts.now.parts)) c.args.trail.now c.args.state.now c.requires.reached

pub advance-requires-clause-admitted : goal.advance-requires-clause-admitted
advance-requires-clause-admitted c =
    let r = c.requires.reached in
    record { trace = r.log; stands = r.stands.heap; follows = (c.in-May.ensures r.log r.run r.stands).1.follows }

pub advance-requires-clause-room : goal.advance-requires-clause-room
advance-requires-clause-room c =
    let bounds = bounds_of c.args.state.now.heap in
    let r = c.requires.reached in
    counted-next bounds c.args.scripts.now.kinds (rest_by (part_at c.args.scripts.now.parts)) c.requires.short c.args.state.now r.log c.in-May.event refl r.stands (c.in-May.ensures r.log r.run r.stands).1

pub advance-requires-clause-within : goal.advance-requires-clause-within
advance-requires-clause-within c =
    reached-within (bounds_of c.args.state.now.heap) c.args.scripts.now.kinds (rest_by (part_at c.args.scripts.now.parts)) c.args.trail.now.steps.items c.args.state.now c.requires.reached

pub returns : goal.returns
returns c =
    let bounds = bounds_of c.args.state.now.heap in
    let scripts = c.args.scripts.now.kinds in
    let rest = rest_by (part_at c.args.scripts.now.parts) in
    let t = c.args.thread.0 in
    let before = c.args.state.now in
    let after = c.advance.new.state in
    let e = c.in-May.event in
    let done = c.in_ok-advance.ensures in
    record {
      settles = settles_free bounds scripts (part_at c.args.scripts.now.parts) c.requires.parts before after e c.requires.plain
          (λ log run stands.
          let w = c.in-May.ensures log run stands in
          let index : c.done_by.result ≡ events_of log t = c.done_by.ensures rest log stands in
          let due : slice_get (script_of scripts t) (events_of log t) ≡ Some e.kind = subst (λ u. slice_get (script_of scripts u) (events_of log u) ≡ Some e.kind) w.0 w.1.due in
          let free : IsFreeAt scripts t c.done_by.result e.kind = record {
            locks = c.args.scripts.now.locks;
            free = sym (c.is_free.ensures ∙ ap (λ o. option_map_or (is_free_at c.args.scripts.now.locks scripts t c.done_by.result) o false) (ap (slice_get (script_of scripts t)) index ∙ due)) ∙ c.if-not-is_free.false;
          } in
          subst (λ u. IsFreeAt scripts u (events_of log u) e.kind) (sym w.0) (subst (λ n. IsFreeAt scripts t n e.kind) index free))
          (λ log run stands. (c.in-May.ensures log run stands).1)
          done.next
          (λ r. next-reached bounds scripts rest before after e r (c.in-May.ensures r.log r.run r.stands).1 (done.next r.log (IsRunOf-next bounds scripts r.log e r.run (c.in-May.ensures r.log r.run r.stands).1) r.stands) done.bounds);
      reached =
          let r = c.requires.reached in
          reached-next bounds scripts rest c.args.trail.now.steps.items c.advance.new.trail.steps.items before after e r (c.in-May.ensures r.log r.run r.stands).1 (done.next r.log (IsRunOf-next bounds scripts r.log e r.run (c.in-May.ensures r.log r.run r.stands).1) r.stands) done.bounds done.steps done.place;
      goes_on = done.goes_on;
      alarms = done.alarms;
    }
