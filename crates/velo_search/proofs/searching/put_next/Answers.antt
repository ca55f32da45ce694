use Rattle.std.proofs.Common.{◌≡◌, ℕ, ◌+◌, ◌||◌, true, false, refl, sym, ap, ◌∙◌, subst, arith}
use Rattle.std.specs.Prelude.{All}
use Rattle.velo_search.specs.Parts.{rest_by, AreParts, part_at}
use Rattle.velo_search.specs.declared.found.Found.{Found}
use Rattle.velo_search.specs.Faults.{Fault}
use Rattle.velo_search.specs.Told.{found_after}
use Rattle.velo_search.specs.Search.{IsClean, IsTried, IsTrueOf, has_fault}
use Rattle.velo_search.specs.Trail.{AlarmsGoOn, IsReachedBy}
use Rattle.velo_search.proofs.OnTold.{found-true, found-shows, found-leads, tried-start}
use Rattle.velo_search.proofs.OnTrails.{alarms-next, alarms-same, goes-same, goes-next, noted-on, reached-plain, reached-longer}
use Rattle.velo_search.proofs.searching.put_next.Goals as goal

pub loop-thread-init : goal.loop-thread-init
loop-thread-init c =
    let bounds = c.args.terms.now.bounds in
    let scripts = c.args.terms.now.scripts.now.kinds in
    let rest = rest_by (part_at c.args.terms.now.scripts.now.parts) in
    let start = c.args.next.now.states.items in
    record {
      tried = tried-start bounds scripts rest c.args.state.now start (λ k d l. reached-plain bounds scripts rest c.args.trail.now.steps.items _ (c.requires.others k d l));
      count = omega arith;
      others = c.requires.others;
      goes_on = goes-same c.args.trail.now c.args.trail.now refl;
      alarms = alarms-same bounds scripts rest c.args.trail.now c.args.trail.now refl;
      noted = c.requires.noted_others;
    }

pub look-requires-clause-parts : goal.look-requires-clause-parts
look-requires-clause-parts c =
    subst (λ b. AreParts b c.args.terms.now.scripts.now.kinds (part_at c.args.terms.now.scripts.now.parts)) (sym c.requires.state.same) c.requires.parts

pub look-requires-clause-reached : goal.look-requires-clause-reached
look-requires-clause-reached c =
    let scripts = c.args.terms.now.scripts.now.kinds in
    let rest = rest_by (part_at c.args.terms.now.scripts.now.parts) in
    let state = c.args.state.now in
    subst (λ b. IsReachedBy b scripts rest c.loop-thread.trail.steps.items state) (sym c.requires.state.same)
    (reached-longer c.args.terms.now.bounds scripts rest c.args.trail.now.steps.items c.loop-thread.trail.steps.items state c.loop-thread.invariant.goes_on.longer c.requires.state)

pub loop-thread-preserved : goal.loop-thread-preserved
loop-thread-preserved c =
    let scripts = c.args.terms.now.scripts.now.kinds in
    let rest = rest_by (part_at c.args.terms.now.scripts.now.parts) in
    let state = c.args.state.now in
    let start = c.args.next.now.states.items in
    let same = c.requires.state.same in
    let before = subst (λ b. IsTried b scripts rest state start c.loop-thread.next.states.items c.loop-thread.seen c.loop-thread.thread) (sym same) c.loop-thread.invariant.tried in
    record {
      tried = subst (λ b. IsTried b scripts rest state start c.look.new.next.states.items c.look.new.seen (c.loop-thread.thread + 1)) same (c.in_ok-look.ensures.tried start before);
      count = omega (arith, c.in_ok-look.ensures.count, c.loop-thread.invariant.count);
      others = subst (λ b. All (IsReachedBy b scripts rest c.look.new.trail.steps.items) c.look.new.next.states.items) same
          (c.in_ok-look.ensures.reached (subst (λ b. All (IsReachedBy b scripts rest c.loop-thread.trail.steps.items) c.loop-thread.next.states.items) (sym same) c.loop-thread.invariant.others));
      goes_on = goes-next c.args.trail.now c.loop-thread.trail c.look.new.trail c.loop-thread.invariant.goes_on c.in_ok-look.ensures.goes_on;
      alarms = alarms-next c.args.terms.now.bounds scripts rest c.args.trail.now c.loop-thread.trail c.look.new.trail c.loop-thread.invariant.goes_on.first c.loop-thread.invariant.alarms
          (subst (λ b. AlarmsGoOn b scripts rest c.loop-thread.trail c.look.new.trail) same c.in_ok-look.ensures.alarms);
      noted = c.in_ok-look.ensures.noted
          (noted-on c.args.trail.now c.loop-thread.trail state c.loop-thread.invariant.goes_on.first c.loop-thread.invariant.alarms.more c.requires.noted)
          c.loop-thread.invariant.noted;
    }

pub returns-clause-found : goal.returns-clause-found
returns-clause-found c =
    let bounds = c.args.terms.now.bounds in
    let scripts = c.args.terms.now.scripts.now.kinds in
    let rest = rest_by (part_at c.args.terms.now.scripts.now.parts) in
    let state = c.args.state.now in
    let start = c.args.next.now.states.items in
    let now = c.loop-thread.next.states.items in
    let seen = c.loop-thread.seen in
    let all : c.loop-thread.thread ≡ bounds.threads = omega (arith, c.loop-thread-test.false, c.loop-thread.auto.thread-end) in
    let tried = subst (λ t. IsTried bounds scripts rest state start now seen t) all c.loop-thread.invariant.tried in
    let value : c.after.result ≡ found_after c.args.found state.marks.alarmed seen = c.after.ensures ∙ ap (λ a. found_after c.args.found a seen) c.is_alarmed.ensures.value in
    subst (λ (f : Found). IsTrueOf bounds scripts rest f) (sym value) (found-true bounds scripts rest state (reached-plain bounds scripts rest c.args.trail.now.steps.items state c.requires.state) start now seen tried c.args.found c.requires.found)

pub returns-clause-leads : goal.returns-clause-leads
returns-clause-leads c =
    let bounds = c.args.terms.now.bounds in
    let scripts = c.args.terms.now.scripts.now.kinds in
    let rest = rest_by (part_at c.args.terms.now.scripts.now.parts) in
    let state = c.args.state.now in
    let start = c.args.next.now.states.items in
    let now = c.loop-thread.next.states.items in
    let seen = c.loop-thread.seen in
    let all : c.loop-thread.thread ≡ bounds.threads = omega (arith, c.loop-thread-test.false, c.loop-thread.auto.thread-end) in
    let tried = subst (λ t. IsTried bounds scripts rest state start now seen t) all c.loop-thread.invariant.tried in
    let value : c.after.result ≡ found_after c.args.found state.marks.alarmed seen = c.after.ensures ∙ ap (λ a. found_after c.args.found a seen) c.is_alarmed.ensures.value in
    subst (λ (f : Found). (n : ℕ) (fault : Fault) → has_fault f fault ≡ false → All (IsClean bounds scripts rest n fault) now → (All (IsClean bounds scripts rest n fault) start × IsClean bounds scripts rest (n + 1) fault state)) (sym value)
    (found-leads bounds scripts rest state (reached-plain bounds scripts rest c.args.trail.now.steps.items state c.requires.state) start now seen tried c.args.found)

pub returns-clause-shows : goal.returns-clause-shows
returns-clause-shows c =
    let bounds = c.args.terms.now.bounds in
    let scripts = c.args.terms.now.scripts.now.kinds in
    let rest = rest_by (part_at c.args.terms.now.scripts.now.parts) in
    let state = c.args.state.now in
    let start = c.args.next.now.states.items in
    let now = c.loop-thread.next.states.items in
    let seen = c.loop-thread.seen in
    let all : c.loop-thread.thread ≡ bounds.threads = omega (arith, c.loop-thread-test.false, c.loop-thread.auto.thread-end) in
    let tried = subst (λ t. IsTried bounds scripts rest state start now seen t) all c.loop-thread.invariant.tried in
    let value : c.after.result ≡ found_after c.args.found state.marks.alarmed seen = c.after.ensures ∙ ap (λ a. found_after c.args.found a seen) c.is_alarmed.ensures.value in
    λ fault none some log run stands.
    found-shows bounds scripts rest state (reached-plain bounds scripts rest c.args.trail.now.steps.items state c.requires.state) start now seen tried c.args.found fault none
    (subst (λ (f : Found). has_fault f fault ≡ true) value some) log run stands

pub returns-clause-alarm : goal.returns-clause-alarm
returns-clause-alarm c =
    let state = c.args.state.now in
    let seen = c.loop-thread.seen in
    let value : c.after.result ≡ found_after c.args.found state.marks.alarmed seen = c.after.ensures ∙ ap (λ a. found_after c.args.found a seen) c.is_alarmed.ensures.value in
    λ first none some.
    let either : (c.args.found.alarm || state.marks.alarmed) ≡ true = sym (ap (λ (f : Found). f.alarm) value) ∙ some in
    let alarmed : state.marks.alarmed ≡ true = subst (λ b. (b || state.marks.alarmed) ≡ true) none either in
    let was = c.requires.noted.some first alarmed in
    omega (arith, was, c.loop-thread.invariant.alarms.more)
