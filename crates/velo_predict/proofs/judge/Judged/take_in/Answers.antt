use Rattle.std.proofs.Common.{◌≡◌, ◌<◌, [], ◌∷◌, ◌++◌, Some, get_or, length, take, ap, subst, sym, ◌∙◌, arith}
use Rattle.std.specs.Prelude.{◌||◌, slice_get}
use Rattle.std.proofs.lemmas.Bool.{false≢true}
use Rattle.std.proofs.lemmas.Grind.{common_steps}
use Rattle.velo_events.specs.Event.{thread_of}
use Rattle.velo_heap.specs.Contents.{bounds_of}
use Rattle.velo_traces.proofs.Past.{past}
use Rattle.velo_predict.specs.Differences.{AreDifferences, difference_at}
use Rattle.velo_predict.proofs.OnDifferences.{differing_after}
use Rattle.velo_predict.proofs.OnFollowing.{item_at}
use Rattle.velo_predict.proofs.OnJudged.{event_in, judged_after}
use Rattle.velo_predict.proofs.judge.Judged.take_in.Goals as goal
use Rattle.velo_predict.proofs.judge.Judged.take_in.Goals.{then-self, else-self}

pub step_by-requires : goal.step_by-requires
step_by-requires c =
    let e = get_or c.args.events.now c.args.position past in
    let trace = take c.args.position c.args.events.now in
    let follows = (c.may_follow.ensures trace c.requires.stands.heap).0 c.if-not-may_follow.false in
    let threads : thread_of e < length c.args.self.now.courses.items = omega (arith, follows.known_thread, c.requires.stands.count) in
    let here : slice_get c.args.self.now.courses.items (thread_of e) ≡ Some c.index-course.result.now = item_at c.args.self.now.courses.items (thread_of e) c.index-course.result.now threads (grind (arith, common_steps)) in
    (c.requires.stands.courses (thread_of e) c.index-course.result.now here).within

pub returns-then-not-may_follow-clause-no : goal.returns-then-not-may_follow-clause-no
returns-then-not-may_follow-clause-no c = λ none prediction.
    let trace = take c.args.position c.args.events.now in
    let both = event_in (bounds_of c.args.self.now.heap) c.args.log.now c.args.events.now c.args.position past c.requires.within prediction in
    false≢true (sym c.if-not-may_follow.true ∙ (c.may_follow.ensures trace c.requires.stands.heap).1 both.0)

pub returns-in_default-clause-no : goal.returns-in_default-clause-no
returns-in_default-clause-no c = λ none prediction.
    let e = get_or c.args.events.now c.args.position past in
    let trace = take c.args.position c.args.events.now in
    let follows = (c.may_follow.ensures trace c.requires.stands.heap).0 c.if-not-may_follow.false in
    let threads : thread_of e < length c.args.self.now.courses.items = omega (arith, follows.known_thread, c.requires.stands.count) in
    let here : slice_get c.args.self.now.courses.items (thread_of e) ≡ Some c.index-course.result.now = item_at c.args.self.now.courses.items (thread_of e) c.index-course.result.now threads (grind (arith, common_steps)) in
    let both = event_in (bounds_of c.args.self.now.heap) c.args.log.now c.args.events.now c.args.position past c.requires.within prediction in
    c.in_default.ensures.not_foretold trace (c.requires.stands.courses (thread_of e) c.index-course.result.now here) both.1

pub returns-clause-yes : goal.returns-clause-yes
returns-clause-yes c = λ yes.
    let e = get_or c.args.events.now c.args.position past in
    let trace = take c.args.position c.args.events.now in
    let follows = (c.may_follow.ensures trace c.requires.stands.heap).0 c.if-not-may_follow.false in
    let threads : thread_of e < length c.args.self.now.courses.items = omega (arith, follows.known_thread, c.requires.stands.count) in
    let here : slice_get c.args.self.now.courses.items (thread_of e) ≡ Some c.index-course.result.now = item_at c.args.self.now.courses.items (thread_of e) c.index-course.result.now threads (grind (arith, common_steps)) in
    let both = c.in-Some.ensures.foretold trace (c.requires.stands.courses (thread_of e) c.index-course.result.now here) c.requires.stands.loose in
    judged_after (bounds_of c.args.self.now.heap) c.args.log.now c.args.events.now c.args.position past c.args.self.now _ c.index-course.result.now c.in-Some.step.course c.requires.within
    c.requires.stands here follows both.0 c.in-Some.ensures.release both.1
    (c.apply.ensures.next trace c.requires.stands.heap)
    c.apply.ensures.bounds
    (grind (arith, common_steps))
    (grind (arith, common_steps))
    loose
    (subst (AreDifferences c.args.log.now (trace ++ e ∷ [])) (ap (λ ds. ds ++ difference_at c.args.position c.in-Some.step.differs_from) (sym reserved) ∙ sym c.list_difference.ensures) (differing_after c.args.log.now c.args.events.now c.args.position e c.args.self.now.differing.items c.in-Some.step.differs_from c.requires.within c.requires.stands.differing (c.in-Some.ensures.differs trace (c.requires.stands.courses (thread_of e) c.index-course.result.now here))))
  where
    reserved : c.reserve.new.items.items ≡ c.args.self.now.differing.items
    reserved = grind (arith, common_steps)

    loose : c.if-self.self ≡ (c.args.self.now.is_loose || c.index-course.result.now.is_unsure)
    loose = elim c.if-self.branch [
      | then-self w ↦ grind (arith, common_steps)
      | else-self w ↦ grind (arith, common_steps)
    ]
