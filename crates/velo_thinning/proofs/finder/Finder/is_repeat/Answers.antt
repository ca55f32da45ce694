use Rattle.std.proofs.Common.{◌≡◌, ℕ, suc, ◌-◌, ◌<◌, ◌≤◌, Some, List, get_or, length, sym, ap, ◌∙◌, subst, arith}
use Rattle.std.specs.Prelude.{◌↔◌, slice_get, IsTrue}
use Rattle.std.proofs.lemmas.List.{get_or_read}
use Rattle.std.proofs.lemmas.Option.{slice_get-get_or, same_Some}
use Rattle.std.proofs.lemmas.Bool.{both_ways, false≢true}
use Rattle.velo_events.specs.declared.event.Event.{Event}
use Rattle.velo_events.specs.Event.{thread_of}
use Rattle.velo_traces.proofs.Past.{past}
use Rattle.velo_thinning.specs.Repeating.{IsRepeat}
use Rattle.velo_thinning.specs.Finding.{IsFound, IsFresh, IsSmall}
use Rattle.velo_thinning.specs.declared.finder.Finder.{Finder}
use Rattle.velo_thinning.proofs.OnFinding.{count, count-le, none-known, other-known, same-known}
use Rattle.velo_thinning.proofs.finder.Finder.is_repeat.Goals as goal

-- what is read of the thread's row
module _ (log : List Event) (n : ℕ) (within : n < length log) (f : Finder) (found : IsFound log n f) (row value : ℕ)
    (is : row ≡ thread_of (get_or log n past)) (small : row < 256) (read : value ≡ get_or f.near.items row value) where
  abbrev e : Event
  e = get_or log n past

  here : slice_get log n ≡ Some e
  here = slice_get-get_or log n past within

  known : thread_of e < 256
  known = omega (arith, is, small)

  value-is : value ≡ get_or f.near.items (thread_of e) 0
  value-is = get_or_read f.near.items row value (let t = found.threads in omega (arith, t, small)) read 0 ∙ ap (λ k. get_or f.near.items k 0) is

  value-le : value ≤ n
  value-le = let l = count-le log n e here f found within known in let v = value-is in omega (arith, l, v)

  none : value ≡ 0 → IsRepeat log n → ⊥
  none zero r = none-known log n e here f found within known (sym value-is ∙ zero) r

  module _ (some : value ≡ 0 → ⊥) where
    there : get_or f.near.items (thread_of e) 0 ≡ suc (value - 1)
    there = let v = value-is in omega (arith, v, some)

    inside : value - 1 < length log
    inside = let l = value-le in omega (arith, l, within, some)

    at : slice_get log (value - 1) ≡ Some (get_or log (value - 1) past)
    at = slice_get-get_or log (value - 1) past inside

    other : (get_or log (value - 1) past ≡ e → ⊥) → IsRepeat log n → ⊥
    other differ r = other-known log n e here f found within known (value - 1) there (λ again. differ (same_Some (get_or log (value - 1) past) e (sym at ∙ again))) r

    same : get_or log (value - 1) past ≡ e → IsSmall e.kind → IsFresh f e.kind value ↔ IsRepeat log n
    same one fits = subst (λ k. IsFresh f e.kind k ↔ IsRepeat log n) (sym value-is)
        (same-known log n e here f found within known (value - 1) there (at ∙ ap Some one) fits)

pub returns-then-count-eq0 : goal.returns-then-count-eq0
returns-then-count-eq0 c = (
  (λ t. absurd (false≢true t)),
  (λ r. absurd (none c.args.events.now c.args.position c.requires.within c.args.self.now c.requires.found c.row_of.result c.index-count.result.now
      c.row_of.ensures.row c.row_of.ensures.within c.index-count.ensures c.if-count-eq0.true r)),
)

pub bounds-events-count : goal.bounds-events-count
bounds-events-count c =
    inside c.args.events.now c.args.position c.requires.within c.args.self.now c.requires.found c.row_of.result c.index-count.result.now
    c.row_of.ensures.row c.row_of.ensures.within c.index-count.ensures c.if-count-eq0.false

pub returns-then-are_one : goal.returns-then-are_one
returns-then-are_one c =
    let law = same c.args.events.now c.args.position c.requires.within c.args.self.now c.requires.found c.row_of.result c.index-count.result.now
    c.row_of.ensures.row c.row_of.ensures.within c.index-count.ensures c.if-count-eq0.false (c.are_one.ensures.0 c.if-are_one.true) c.is_fresh.ensures.small in
    ((λ t. law.0 (c.is_fresh.ensures.fresh.0 t)), (λ r. c.is_fresh.ensures.fresh.1 (law.1 r)))

pub returns-else-are_one : goal.returns-else-are_one
returns-else-are_one c = (
  (λ t. absurd (both_ways c.are_one.result c.if-are_one.false t)),
  (λ r. absurd (other c.args.events.now c.args.position c.requires.within c.args.self.now c.requires.found c.row_of.result c.index-count.result.now
      c.row_of.ensures.row c.row_of.ensures.within c.index-count.ensures c.if-count-eq0.false (λ one. both_ways c.are_one.result c.if-are_one.false (c.are_one.ensures.1 one)) r)),
)
