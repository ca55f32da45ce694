-- The open blocks of a thread, one event after another.
use Rattle.std.proofs.Common.{◌≡◌, ℕ, ◌+◌, ◌-◌, ◌<◌, List, [], ◌∷◌, ◌++◌, length, take, Some, refl, sym, ◌∙◌, subst, arith, ⊎_elim}
use Rattle.std.specs.Prelude.{slice_get, slice_index, IsTrue, IsFalse, OnOk, Result, Ok, Err}
use Rattle.std.proofs.lemmas.Bool.{cases_lt}
use Rattle.std.proofs.lemmas.List.{length_push, get_or_append_left, get_or_push, get_or-take, length-take-le}
use Rattle.velo_events.specs.declared.event.Event.{Event}
use Rattle.velo_events.specs.Event.{is_begin_by, is_end_by}
use Rattle.velo_events.specs.Scan.{begins, ends, IsOpenAt}
use Rattle.velo_events.proofs.OnScans.{begins-other, begins-more, ends-other, ends-more, begin_by-no_end_by, end_by-no_begin_by, IsOpenAt-less, IsOpenAt-more, IsOpenAt-begin, IsOpenAt-no_begin}
use Rattle.velo_audit.specs.Open.{AreOpen, IsListedAt}

pub on_ok : {A E : Type 0} {P Q : Type 0} (r : Result A E) → (P → Q) → OnOk r P → OnOk r Q
on_ok (Ok x) f h = f h
on_ok (Err e) f h = tt

-- before the first event none is open
pub AreOpen-start : (log : List Event) (t : ℕ) → AreOpen log t 0 []
AreOpen-start log t = record {
  earlier = λ j l. absurd (omega (arith, l));
  are = λ j l. absurd (omega (arith, l));
  counts = λ j l. absurd (omega (arith, l));
  rise = λ j k l m. absurd (omega (arith, m));
  each = λ b l w. absurd (omega (arith, l));
}

module _ (log : List Event) (t n : ℕ) (e : Event) (here : slice_get log n ≡ Some e) (these : List ℕ) (were : AreOpen log t n these) where
  -- a block that is open after the event, and is not begun by it, was open
  was_open : IsFalse (is_begin_by t e) → (b : ℕ) → b < n + 1 → IsOpenAt log t b (n + 1) → IsListedAt these b
  was_open no_begin b low opened =
      ⊎_elim (λ l. were.each b l (IsOpenAt-less log t b (n + 1) n (omega arith) opened))
      (λ g. let same : b ≡ n = omega (arith, g, low) in absurd (IsOpenAt-no_begin log t n e here (n + 1) no_begin (subst (λ k. IsOpenAt log t k (n + 1)) same opened)))
      (cases_lt b n)

  -- the event neither begins nor ends a block of the thread
  pub AreOpen-other : IsFalse (is_begin_by t e) → IsFalse (is_end_by t e) → AreOpen log t (n + 1) these
  AreOpen-other no_begin no_end =
      let more : begins log t (n + 1) ≡ begins log t n = begins-other log t n e here no_begin in
      let less : ends log t (n + 1) ≡ ends log t n = ends-other log t n e here no_end in
      record {
        earlier = λ j l. let low = were.earlier j l in omega (arith, low);
        are = λ j l. let c = were.counts j l in IsOpenAt-more log t (slice_index these j) n (were.are j l) (λ same. omega (arith, same, c, l, more, less));
        counts = λ j l. let c = were.counts j l in omega (arith, c, more, less);
        rise = were.rise;
        each = was_open no_begin;
      }

  -- it begins one
  pub AreOpen-begin : IsTrue (is_begin_by t e) → AreOpen log t (n + 1) (these ++ n ∷ [])
  AreOpen-begin begun = record {
    earlier = λ j l. ⊎_elim
        (λ old. let low = were.earlier j old in omega (arith, low, at_old j old))
        (λ last. let is = at_last j (omega (arith, last, l, long)) in omega (arith, is))
        (cases_lt j (length these));
    are = λ j l. ⊎_elim
        (λ old. subst (λ b. IsOpenAt log t b (n + 1)) (sym (at_old j old))
        (let c = were.counts j old in IsOpenAt-more log t (slice_index these j) n (were.are j old) (λ same. omega (arith, same, c, old, more, less))))
        (λ last. subst (λ b. IsOpenAt log t b (n + 1)) (sym (at_last j (omega (arith, last, l, long)))) (IsOpenAt-begin log t n e here begun))
        (cases_lt j (length these));
    counts = λ j l. ⊎_elim
        (λ old. subst (λ b. begins log t (n + 1) + ends log t b + j ≡ ends log t (n + 1) + begins log t b + length (these ++ n ∷ [])) (sym (at_old j old))
        (let c = were.counts j old in omega (arith, c, more, less, long)))
        (λ last. subst (λ b. begins log t (n + 1) + ends log t b + j ≡ ends log t (n + 1) + begins log t b + length (these ++ n ∷ [])) (sym (at_last j (omega (arith, last, l, long))))
        (omega (arith, more, less, long, last, l)))
        (cases_lt j (length these));
    rise = λ j k l m. ⊎_elim
        (λ old. let up = were.rise j k l old in omega (arith, up, at_old j (omega (arith, l, old)), at_old k old))
        (λ last.
        let first : j < length these = omega (arith, l, last, m, long) in
        let low = were.earlier j first in
        omega (arith, low, at_old j first, at_last k (omega (arith, last, m, long))))
        (cases_lt k (length these));
    each = λ b low opened. ⊎_elim
        (λ l.
        let w = were.each b l (IsOpenAt-less log t b (n + 1) n (omega arith) opened) in
        record { place = w.place; within = omega (arith, w.within, long); there = at_old w.place w.within ∙ w.there })
        (λ g. let same : n ≡ b = omega (arith, g, low) in record { place = length these; within = omega (arith, long); there = at_last (length these) refl ∙ same })
        (cases_lt b n);
  }
    where
      long : length (these ++ n ∷ []) ≡ length these + 1
      long = length_push these n

      more : begins log t (n + 1) ≡ begins log t n + 1
      more = begins-more log t n e here begun

      less : ends log t (n + 1) ≡ ends log t n
      less = ends-other log t n e here (begin_by-no_end_by t e begun)

      at_old : (j : ℕ) → j < length these → slice_index (these ++ n ∷ []) j ≡ slice_index these j
      at_old j l = get_or_append_left these (n ∷ []) 0 j l

      at_last : (j : ℕ) → j ≡ length these → slice_index (these ++ n ∷ []) j ≡ n
      at_last j is = get_or_push these n 0 j (sym is)

  -- it ends one, the innermost, if there is one
  pub AreOpen-end : IsTrue (is_end_by t e) → AreOpen log t (n + 1) (take (length these - 1) these)
  AreOpen-end ended = record {
    earlier = λ j l. let low = were.earlier j (omega (arith, l, long)) in omega (arith, low, at_old j (omega (arith, l, long)));
    are = λ j l. subst (λ b. IsOpenAt log t b (n + 1)) (sym (at_old j (omega (arith, l, long))))
        (let c = were.counts j (omega (arith, l, long)) in IsOpenAt-more log t (slice_index these j) n (were.are j (omega (arith, l, long))) (λ same. omega (arith, same, c, l, long, more, less)));
    counts = λ j l. subst (λ b. begins log t (n + 1) + ends log t b + j ≡ ends log t (n + 1) + begins log t b + length (take (length these - 1) these)) (sym (at_old j (omega (arith, l, long))))
        (let c = were.counts j (omega (arith, l, long)) in omega (arith, c, more, less, long, l));
    rise = λ j k l m.
        let up = were.rise j k l (omega (arith, m, long)) in
        omega (arith, up, at_old j (omega (arith, l, m, long)), at_old k (omega (arith, m, long)));
    each = λ b low opened.
        let w = was_open no_begin b low opened in
        let c = were.counts w.place w.within in
        let early : w.place < length these - 1 = ⊎_elim (λ l. l)
        (λ g.
        let last : w.place + 1 ≡ length these = omega (arith, g, w.within) in
        let closed : begins log t (n + 1) + ends log t (slice_index these w.place) ≡ ends log t (n + 1) + begins log t (slice_index these w.place) = omega (arith, c, last, more, less) in
        let under = were.earlier w.place w.within in
        absurd (opened.unbalanced n (omega (arith, under, w.there)) (omega arith) (subst (λ k. begins log t (n + 1) + ends log t k ≡ ends log t (n + 1) + begins log t k) w.there closed)))
        (cases_lt w.place (length these - 1)) in
        record { place = w.place; within = omega (arith, early, long); there = at_old w.place early ∙ w.there };
  }
    where
      no_begin : IsFalse (is_begin_by t e)
      no_begin = end_by-no_begin_by t e ended

      long : length (take (length these - 1) these) ≡ length these - 1
      long = length-take-le (length these - 1) these (omega arith)

      more : begins log t (n + 1) ≡ begins log t n
      more = begins-other log t n e here no_begin

      less : ends log t (n + 1) ≡ ends log t n + 1
      less = ends-more log t n e here ended

      at_old : (j : ℕ) → j < length these - 1 → slice_index (take (length these - 1) these) j ≡ slice_index these j
      at_old j l = get_or-take (length these - 1) these j 0 l
