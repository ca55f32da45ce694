use Rattle.std.proofs.Common.{◌≡◌, ◌+◌, ◌<◌, ◌≤◌, [], ◌∷◌, ◌++◌, length, Some, refl, sym, ◌∙◌, subst}
use Rattle.std.specs.Prelude.{slice_get, slice_index_or}
use Rattle.std.proofs.lemmas.Option.{same_Some}
use Rattle.velo_events.specs.Event.{thread_of}
use Rattle.velo_events.specs.Tally.{events_of}
use Rattle.velo_events.specs.WellFormed.{MayFollow}
use Rattle.velo_heap.specs.Contents.{bounds_of}
use Rattle.velo_search.specs.Parts.{rest_by, AreParts, part_at}
use Rattle.velo_search.specs.Runs.{script_of, IsRunOf}
use Rattle.velo_search.specs.States.{IsStateOf}
use Rattle.velo_search.specs.Trail.{IsReachedBy, SettlesBy}
use Rattle.velo_search.proofs.OnRuns.{IsRunOf-next}
use Rattle.velo_search.proofs.OnSearch.{same_event}
use Rattle.velo_search.proofs.OnFreeEvents.{counted-next}
use Rattle.velo_search.proofs.OnTrails.{goes-next, reached-behind, reached-within}
use Rattle.velo_search.proofs.searching.follow.Goals as goal

pub advance-requires-clause-room : goal.advance-requires-clause-room
advance-requires-clause-room c =
    let r = c.requires.reached in
    subst (λ xs. slice_index_or xs (thread_of c.args.event.now) 0 + 1 < 4294967296) (sym c.in_ok-after.ensures.next)
    (counted-next (bounds_of c.args.state.now.heap) c.args.scripts.now.kinds (rest_by (part_at c.args.scripts.now.parts)) c.requires.short c.args.state.now r.log c.args.event.now refl r.stands (c.requires.next r.log r.run r.stands))

pub advance-requires-clause-within : goal.advance-requires-clause-within
advance-requires-clause-within c =
    subst (λ n. n ≤ length c.args.trail.now.steps.items) (sym c.in_ok-after.ensures.place)
    (reached-within (bounds_of c.args.state.now.heap) c.args.scripts.now.kinds (rest_by (part_at c.args.scripts.now.parts)) c.args.trail.now.steps.items c.args.state.now c.requires.reached)

pub advance-requires-clause-admitted : goal.advance-requires-clause-admitted
advance-requires-clause-admitted c =
    let r = c.requires.reached in
    let copy = c.in_ok-after.ensures in
    record {
      trace = r.log;
      stands = (copy.same (rest_by (part_at c.args.scripts.now.parts)) r.log r.stands).heap;
      follows = subst (λ b. MayFollow b r.log c.args.event.now) (sym copy.bounds) (c.requires.next r.log r.run r.stands).follows;
    }

pub advance-requires-clause-parts : goal.advance-requires-clause-parts
advance-requires-clause-parts c =
    subst (λ b. AreParts b c.args.scripts.now.kinds (part_at c.args.scripts.now.parts)) (sym c.in_ok-after.ensures.bounds) c.requires.parts

pub settle-requires-clause-parts : goal.settle-requires-clause-parts
settle-requires-clause-parts c =
    subst (λ b. AreParts b c.args.scripts.now.kinds (part_at c.args.scripts.now.parts)) (sym (c.in_ok-advance.ensures.bounds ∙ c.in_ok-after.ensures.bounds)) c.requires.parts

pub settle-requires-clause-reached : goal.settle-requires-clause-reached
settle-requires-clause-reached c =
    let bounds = bounds_of c.args.state.now.heap in
    let scripts = c.args.scripts.now.kinds in
    let rest = rest_by (part_at c.args.scripts.now.parts) in
    let r = c.requires.reached in
    let copy = c.in_ok-after in
    let done = c.in_ok-advance.ensures in
    let same = done.bounds ∙ copy.ensures.bounds in
    subst (λ b. IsReachedBy b scripts rest c.advance.new.trail.steps.items c.advance.new.state) (sym same)
    (reached-behind bounds scripts rest c.args.trail.now.steps.items c.advance.new.trail.steps.items c.args.state.now copy.after c.advance.new.state c.args.event.now r copy.ensures.place (c.requires.next r.log r.run r.stands)
    (done.next r.log (subst (λ b. IsRunOf b scripts (r.log ++ c.args.event.now ∷ [])) (sym copy.ensures.bounds) (IsRunOf-next bounds scripts r.log c.args.event.now r.run (c.requires.next r.log r.run r.stands))) (copy.ensures.same rest r.log r.stands)) same done.steps done.place)

pub returns-clause-reached : goal.returns-clause-reached
returns-clause-reached c =
    let same = c.in_ok-advance.ensures.bounds ∙ c.in_ok-after.ensures.bounds in
    subst (λ b. IsReachedBy b c.args.scripts.now.kinds (rest_by (part_at c.args.scripts.now.parts)) c.settle.new.trail.steps.items c.settle.new.state) same c.in_ok-settle.ensures.reached

pub returns-clause-goes_on : goal.returns-clause-goes_on
returns-clause-goes_on c =
    goes-next c.args.trail.now c.advance.new.trail c.settle.new.trail c.in_ok-advance.ensures.goes_on c.in_ok-settle.ensures.goes_on

pub returns-clause-leads : goal.returns-clause-leads
returns-clause-leads c = λ n fault clean. record {
  each = λ log e run stands own next.
      let bounds = bounds_of c.args.state.now.heap in
      let scripts = c.args.scripts.now.kinds in
      let rest = rest_by (part_at c.args.scripts.now.parts) in
      let f = c.args.event.now in
      let same = c.in_ok-advance.ensures.bounds ∙ c.in_ok-after.ensures.bounds in
      let settled : SettlesBy bounds scripts rest c.advance.new.trail c.advance.new.state c.settle.new.trail c.settle.new.state = subst (λ b. SettlesBy b scripts rest c.advance.new.trail c.advance.new.state c.settle.new.trail c.settle.new.state) same c.in_ok-settle.ensures in
      let due = (c.requires.next log run stands).due in
      let kind : e.kind ≡ f.kind = same_Some e.kind f.kind (sym (subst (λ u. slice_get (script_of scripts u) (events_of log u) ≡ Some e.kind) own next.due) ∙ due) in
      let is = same_event e f.thread f.kind own kind in
      let after = subst (λ g. IsStateOf rest (log ++ g ∷ []) c.advance.new.state) (sym is) (c.in_ok-advance.ensures.next log (subst (λ b. IsRunOf b scripts (log ++ f ∷ [])) (sym c.in_ok-after.ensures.bounds) (IsRunOf-next bounds scripts log f run (c.requires.next log run stands))) (c.in_ok-after.ensures.same rest log stands)) in
      (settled.settles.clean n fault clean).each (log ++ e ∷ []) (IsRunOf-next bounds scripts log e run next) after;
}
