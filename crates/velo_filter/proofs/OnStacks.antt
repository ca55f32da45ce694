-- The blocks of a thread that are open at a position, as a stack: a begin puts itself on it, and an end takes the innermost off.
use Rattle.std.proofs.Common.{◌≡◌, ℕ, zero, suc, ◌+◌, ◌<◌, ◌≤◌, List, [], ◌∷◌, length, Some, refl, sym, ap, ◌∙◌, subst, arith, ⊎_elim}
use Rattle.std.specs.Prelude.{◌↔◌, slice_get, if◌then◌else◌, IsTrue, IsFalse}
use Rattle.std.proofs.lemmas.Bool.{cases_Bool, cases_lt, both_ways, false_from_ne_true}
use Rattle.std.proofs.lemmas.Option.{none-some, same_Some, slice_get_within}
use Rattle.velo_events.specs.declared.event.Event.{Event}
use Rattle.velo_events.specs.Event.{is_begin_by, is_end_by}
use Rattle.velo_events.specs.Block.{is_open_at}
use Rattle.velo_events.specs.Scan.{begins, ends, IsOpenAt}
use Rattle.velo_filter.specs.Stacks.{popped, stack_after, stack}
use Rattle.velo_events.proofs.OnScans.{event_at, begins-other, begins-more, ends-other, ends-more, begin_by-no_end_by, end_by-no_begin_by, IsOpenAt-from, IsOpenAt-to, IsOpenAt-less, IsOpenAt-more, IsOpenAt-begin, IsOpenAt-no_begin}

module _ (trace : List Event) (t n : ℕ) (e : Event) (here : slice_get trace n ≡ Some e) where
  pub stack-begin : IsTrue (is_begin_by t e) → stack trace t (suc n) ≡ n ∷ stack trace t n
  unfolding stack
  stack-begin h = ap (stack_after t n (stack trace t n)) here ∙ ap (λ b. if b then n ∷ stack trace t n else (if is_end_by t e then popped (stack trace t n) else stack trace t n)) h

  pub stack-end : IsTrue (is_end_by t e) → stack trace t (suc n) ≡ popped (stack trace t n)
  unfolding stack
  stack-end h = ap (stack_after t n (stack trace t n)) here
      ∙ (ap (λ b. if b then n ∷ stack trace t n else (if is_end_by t e then popped (stack trace t n) else stack trace t n)) (end_by-no_begin_by t e h)
      ∙ ap (λ b. if b then popped (stack trace t n) else stack trace t n) h)

  pub stack-other : IsFalse (is_begin_by t e) → IsFalse (is_end_by t e) → stack trace t (suc n) ≡ stack trace t n
  unfolding stack
  stack-other h g = ap (stack_after t n (stack trace t n)) here
      ∙ (ap (λ b. if b then n ∷ stack trace t n else (if is_end_by t e then popped (stack trace t n) else stack trace t n)) h
      ∙ ap (λ b. if b then popped (stack trace t n) else stack trace t n) g)

-- ---- what is on the stack

-- b stands in the list
abbrev pub Stands : List ℕ → ℕ → Type 0
Stands bs b = (j : ℕ) × (slice_get bs j ≡ Some b)

-- each begin on it is that of an open block, and its place tells how many are open from it on
pub record IsStack (trace : List Event) (t n : ℕ) (bs : List ℕ) : Type 0 where
  pub below : (j b : ℕ) → slice_get bs j ≡ Some b → b < n
  pub opened : (j b : ℕ) → slice_get bs j ≡ Some b → IsOpenAt trace t b n
  pub count : (j b : ℕ) → slice_get bs j ≡ Some b → begins trace t n + ends trace t b ≡ ends trace t n + begins trace t b + suc j
  pub all : (b : ℕ) → b < n → IsOpenAt trace t b n → Stands bs b

IsStack-nil : (trace : List Event) (t : ℕ) → IsStack trace t 0 []
IsStack-nil trace t = record {
  below = λ j b h. absurd (none-some b h);
  opened = λ j b h. absurd (none-some b h);
  count = λ j b h. absurd (none-some b h);
  all = λ b l. absurd (omega (arith, l));
}

module _ (trace : List Event) (t n : ℕ) (e : Event) (here : slice_get trace n ≡ Some e) where
  IsStack-begin : IsTrue (is_begin_by t e) → (bs : List ℕ) → IsStack trace t n bs → IsStack trace t (n + 1) (n ∷ bs)
  IsStack-begin h bs w = record { below = below; opened = opened; count = count; all = all }
    where
      more : begins trace t (n + 1) ≡ begins trace t n + 1
      more = begins-more trace t n e here h

      same : ends trace t (n + 1) ≡ ends trace t n
      same = ends-other trace t n e here (begin_by-no_end_by t e h)

      below : (j b : ℕ) → slice_get (n ∷ bs) j ≡ Some b → b < n + 1
      below zero b s = let first = same_Some n b s in omega (arith, first)
      below (suc j) b s = let less = w.below j b s in omega (arith, less)

      opened : (j b : ℕ) → slice_get (n ∷ bs) j ≡ Some b → IsOpenAt trace t b (n + 1)
      opened zero b s = subst (λ k. IsOpenAt trace t k (n + 1)) (same_Some n b s) (IsOpenAt-begin trace t n e here h)
      opened (suc j) b s = let c = w.count j b s in IsOpenAt-more trace t b n (w.opened j b s) (λ balanced. omega (arith, balanced, c, more, same))

      count : (j b : ℕ) → slice_get (n ∷ bs) j ≡ Some b → begins trace t (n + 1) + ends trace t b ≡ ends trace t (n + 1) + begins trace t b + suc j
      count zero b s = let first = same_Some n b s in omega (arith, more, same, ap (begins trace t) first, ap (ends trace t) first)
      count (suc j) b s = let c = w.count j b s in omega (arith, c, more, same)

      all : (b : ℕ) → b < n + 1 → IsOpenAt trace t b (n + 1) → Stands (n ∷ bs) b
      all b l o = ⊎_elim
          (λ under. let r = w.all b under (IsOpenAt-less trace t b (n + 1) n (omega arith) o) in (suc r.0, r.1))
          (λ above. (0, ap Some (let first : n ≡ b = omega (arith, above, l) in first)))
          (cases_lt b n)

  IsStack-end : IsTrue (is_end_by t e) → (bs : List ℕ) → IsStack trace t n bs → IsStack trace t (n + 1) (popped bs)
  IsStack-end h [] w = record {
    below = λ j b s. absurd (none-some b s);
    opened = λ j b s. absurd (none-some b s);
    count = λ j b s. absurd (none-some b s);
    all = λ b l o. ⊎_elim
        (λ under. w.all b under (IsOpenAt-less trace t b (n + 1) n (omega arith) o))
        (λ above. absurd (IsOpenAt-no_begin trace t n e here (n + 1) (end_by-no_begin_by t e h) (subst (λ k. IsOpenAt trace t k (n + 1)) (let at : b ≡ n = omega (arith, above, l) in at) o)))
        (cases_lt b n);
  }
  IsStack-end h (top ∷ bs) w = record {
    below = λ j b s. let less = w.below (suc j) b s in omega (arith, less);
    opened = λ j b s. let c = w.count (suc j) b s in IsOpenAt-more trace t b n (w.opened (suc j) b s) (λ balanced. omega (arith, balanced, c, same, more));
    count = λ j b s. let c = w.count (suc j) b s in omega (arith, c, same, more);
    all = λ b l o. ⊎_elim
        (λ under. under_top b o (w.all b under (IsOpenAt-less trace t b (n + 1) n (omega arith) o)))
        (λ above. absurd (IsOpenAt-no_begin trace t n e here (n + 1) (end_by-no_begin_by t e h) (subst (λ k. IsOpenAt trace t k (n + 1)) (let at : b ≡ n = omega (arith, above, l) in at) o)))
        (cases_lt b n);
  }
    where
      more : ends trace t (n + 1) ≡ ends trace t n + 1
      more = ends-more trace t n e here h

      same : begins trace t (n + 1) ≡ begins trace t n
      same = begins-other trace t n e here (end_by-no_begin_by t e h)

      standing : (b : ℕ) → IsOpenAt trace t b (n + 1) → (j : ℕ) → slice_get (top ∷ bs) j ≡ Some b → Stands bs b
      standing b o zero s = let c = w.count 0 b s in let less = w.below 0 b s in absurd (o.unbalanced n (omega (arith, less)) (omega arith) (omega (arith, c, same, more)))
      standing b o (suc j) s = (j, s)

      under_top : (b : ℕ) → IsOpenAt trace t b (n + 1) → Stands (top ∷ bs) b → Stands bs b
      under_top b o r = standing b o r.0 r.1

  IsStack-other : IsFalse (is_begin_by t e) → IsFalse (is_end_by t e) → (bs : List ℕ) → IsStack trace t n bs → IsStack trace t (n + 1) bs
  IsStack-other h g bs w =
      let b_same = begins-other trace t n e here h in
      let e_same = ends-other trace t n e here g in
      record {
        below = λ j b s. let less = w.below j b s in omega (arith, less);
        opened = λ j b s. let c = w.count j b s in IsOpenAt-more trace t b n (w.opened j b s) (λ balanced. omega (arith, balanced, c, b_same, e_same));
        count = λ j b s. let c = w.count j b s in omega (arith, c, b_same, e_same);
        all = λ b l o. ⊎_elim
            (λ under. w.all b under (IsOpenAt-less trace t b (n + 1) n (omega arith) o))
            (λ above. absurd (IsOpenAt-no_begin trace t n e here (n + 1) h (subst (λ k. IsOpenAt trace t k (n + 1)) (let at : b ≡ n = omega (arith, above, l) in at) o)))
            (cases_lt b n);
      }

  IsStack-step : IsStack trace t n (stack trace t n) → IsStack trace t (n + 1) (stack trace t (suc n))
  IsStack-step w = ⊎_elim
      (λ h. subst (IsStack trace t (n + 1)) (sym (stack-begin trace t n e here h)) (IsStack-begin h _ w))
      (λ h. ⊎_elim
      (λ g. subst (IsStack trace t (n + 1)) (sym (stack-end trace t n e here g)) (IsStack-end g _ w))
      (λ g. subst (IsStack trace t (n + 1)) (sym (stack-other trace t n e here h g)) (IsStack-other h g _ w))
      (cases_Bool (is_end_by t e)))
      (cases_Bool (is_begin_by t e))

pub IsStack-stack : (trace : List Event) (t n : ℕ) → n ≤ length trace → IsStack trace t n (stack trace t n)
unfolding stack
IsStack-stack trace t zero l = IsStack-nil trace t
IsStack-stack trace t (suc n) l =
    let e = event_at trace n (omega arith) in
    subst (λ k. IsStack trace t k (stack trace t (suc n))) (let one : n + 1 ≡ suc n = omega arith in one)
    (IsStack-step trace t n e.0 e.1 (IsStack-stack trace t n (omega arith)))

-- the stack has just the blocks that are open
pub is_open-stack : (trace : List Event) (t b n : ℕ) → b < n → n ≤ length trace → IsTrue (is_open_at trace t b n) ↔ Stands (stack trace t n) b
is_open-stack trace t b n l most =
    let w = IsStack-stack trace t n most in
    ((λ o. w.all b l (IsOpenAt-from trace t b n o)), (λ s. IsOpenAt-to trace t b n (w.opened s.0 b s.1)))

-- ---- what an end takes off

-- the end of a thread closes the block on the top
pub stack-closes : (trace : List Event) (t n b : ℕ) (e : Event) → slice_get trace n ≡ Some e → IsTrue (is_end_by t e) → (bs : List ℕ) → stack trace t n ≡ b ∷ bs → (b < n) × IsTrue (is_open_at trace t b n) × IsFalse (is_open_at trace t b (n + 1))
stack-closes trace t n b e here h bs top =
    (less, (is_open-stack trace t b n less (omega (arith, within))).1 (0, first), false_from_ne_true _ (λ o. still (IsOpenAt-from trace t b (n + 1) o)))
  where
    within : n < length trace
    within = slice_get_within trace n e here

    w : IsStack trace t n (stack trace t n)
    w = IsStack-stack trace t n (omega (arith, within))

    first : slice_get (stack trace t n) 0 ≡ Some b
    first = ap (λ xs. slice_get xs 0) top

    less : b < n
    less = w.below 0 b first

    still : IsOpenAt trace t b (n + 1) → ⊥
    still o =
        let c = w.count 0 b first in
        let more = ends-more trace t n e here h in
        let same = begins-other trace t n e here (end_by-no_begin_by t e h) in
        o.unbalanced n (omega (arith, less)) (omega arith) (omega (arith, c, same, more))

-- and only an end closes a block, the one on the top
pub stack-closed : (trace : List Event) (t n b : ℕ) (e : Event) → slice_get trace n ≡ Some e → b < n → IsTrue (is_open_at trace t b n) → IsFalse (is_open_at trace t b (n + 1)) → IsTrue (is_end_by t e) × ((bs : List ℕ) × (stack trace t n ≡ b ∷ bs))
stack-closed trace t n b e here less opened closed = ⊎_elim begun other (cases_Bool (is_begin_by t e))
  where
    within : n < length trace
    within = slice_get_within trace n e here

    stands : Stands (stack trace t n) b
    stands = (is_open-stack trace t b n less (omega (arith, within))).0 opened

    gone : Stands (stack trace t (suc n)) b → ⊥
    gone s = both_ways _ closed (ap (is_open_at trace t b) (let one : n + 1 ≡ suc n = omega arith in one) ∙ (is_open-stack trace t b (suc n) (omega (arith, less)) (omega (arith, within))).1 s)

    begun : IsTrue (is_begin_by t e) → IsTrue (is_end_by t e) × ((bs : List ℕ) × (stack trace t n ≡ b ∷ bs))
    begun h = absurd (gone (subst (λ xs. Stands xs b) (sym (stack-begin trace t n e here h)) (suc stands.0, stands.1)))

    on_top : (xs : List ℕ) → stack trace t n ≡ xs → (popped xs ≡ stack trace t (suc n)) → (j : ℕ) → slice_get xs j ≡ Some b → (bs : List ℕ) × (stack trace t n ≡ b ∷ bs)
    on_top [] is rest j s = absurd (none-some b s)
    on_top (x ∷ xs) is rest zero s = (xs, is ∙ ap (λ k. k ∷ xs) (same_Some x b s))
    on_top (x ∷ xs) is rest (suc j) s = absurd (gone (subst (λ ys. Stands ys b) rest (j, s)))

    other : IsFalse (is_begin_by t e) → IsTrue (is_end_by t e) × ((bs : List ℕ) × (stack trace t n ≡ b ∷ bs))
    other h = ⊎_elim
        (λ g. (g, on_top (stack trace t n) refl (sym (stack-end trace t n e here g)) stands.0 stands.1))
        (λ g. absurd (gone (subst (λ xs. Stands xs b) (sym (stack-other trace t n e here h g)) stands)))
        (cases_Bool (is_end_by t e))
