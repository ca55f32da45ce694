use Rattle.std.proofs.Common.{◌≡◌, ◌+◌, ◌<◌, max, length, get_or, sym, ◌∙◌, subst, arith}
use Rattle.std.proofs.lemmas.Option.{slice_get-get_or, same_Some}
use Rattle.velo_events.specs.Event.{thread_of}
use Rattle.velo_events.specs.Conflict.{conflict}
use Rattle.velo_traces.proofs.Past.{past}
use Rattle.velo_traces.specs.Places.{HasPlaces}
use Rattle.velo_blame.specs.Known.{IsEndOf, IsKnown, is_by_others}
use Rattle.velo_blame.proofs.OnKnown.{KnowsUpTo-start, bound-start, bound-raised, bound-stays}
use Rattle.velo_blame.proofs.bound.bound_at.Goals as goal
use Rattle.velo_blame.proofs.bound.bound_at.Goals.{then-interrupts, else-interrupts}

pub loop-at-init : goal.loop-at-init
loop-at-init c =
    let trace = c.args.events.now in
    record {
      sizes = c.clear.ensures.sizes;
      known = KnowsUpTo-start trace _ c.clear.new.self c.clear.ensures.blank;
      bound = bound-start trace _ _;
    }

pub take_in-number-requires-clause-places : goal.take_in-number-requires-clause-places
take_in-number-requires-clause-places c =
    let trace = c.args.events.now in
    let at = c.loop-at.at in
    let early : at < length trace = omega (arith, c.requires.within, c.loop-at-test.true) in
    let places = c.requires.places.each at (get_or trace at past) (omega (arith, c.loop-at-test.true)) (slice_get-get_or trace at past early) in
    subst (λ s. HasPlaces s (get_or trace at past)) (sym c.loop-at.invariant.sizes) places

pub loop-at-preserved : goal.loop-at-preserved
loop-at-preserved c =
    let trace = c.args.events.now in
    let at = c.loop-at.at in
    let e = get_or trace at past in
    let last = get_or trace c.args.position past in
    let t = thread_of last in
    let early : at < length trace = omega (arith, c.requires.within, c.loop-at-test.true) in
    let here = slice_get-get_or trace at past early in
    let taken = c.take_in-number.ensures.taken.each trace here c.loop-at.invariant.known in
    record {
      sizes = c.take_in-number.ensures.sizes ∙ c.loop-at.invariant.sizes;
      known = taken.0;
      bound = elim c.if-interrupts.branch [
        | then-interrupts w ↦
            let raised : w.max-bound.result ≡ max c.loop-at.bound c.take_in-number.result = w.max-bound.ensures in
            subst (IsEndOf (IsKnown trace t (at + 1) (is_by_others t (λ f. conflict f last)))) (sym (w.bound-is ∙ raised))
            (bound-raised trace t at e here (is_by_others t (λ f. conflict f last)) c.loop-at.bound c.take_in-number.result taken.1 c.loop-at.invariant.bound (sym c.interrupts.ensures ∙ w.if-interrupts.true))
        | else-interrupts w ↦ subst (IsEndOf (IsKnown trace t (at + 1) (is_by_others t (λ f. conflict f last)))) (sym w.bound-is)
            (bound-stays trace t at e here (is_by_others t (λ f. conflict f last)) c.loop-at.bound c.take_in-number.result taken.1 c.loop-at.invariant.bound (sym c.interrupts.ensures ∙ w.if-interrupts.false))
      ];
    }

pub returns-clause-bound : goal.returns-clause-bound
returns-clause-bound c =
    let trace = c.args.events.now in let p = c.args.position in let last = get_or trace p past in
    let at_end : c.loop-at.at ≡ p = omega arith in
    let end = subst (λ n. IsEndOf (IsKnown trace (thread_of last) n (is_by_others (thread_of last) (λ f. conflict f last))) c.loop-at.bound) at_end c.loop-at.invariant.bound in
    record {
      each = λ e here.
          let same = same_Some last e (sym (slice_get-get_or trace p past c.requires.within) ∙ here) in
          subst (λ f. IsEndOf (IsKnown trace (thread_of f) p (is_by_others (thread_of f) (λ g. conflict g f))) c.loop-at.bound) same end;
    }
