-- The last event of a trace at each place, one event after another.
use Rattle.std.proofs.Common.{◌≡◌, ℕ, zero, suc, ◌<◌, ◌≤◌, Bool, true, false, List, [], ◌∷◌, ◌++◌, length, Option, Some, None, refl, sym, ap, ◌∙◌, subst, arith, ⊎_elim, inl, inr}
use Rattle.std.specs.Prelude.{◌⊎◌, slice_get, option_map, if◌then◌else◌, IsTrue, IsFalse}
use Rattle.std.specs.Option.{option_or}
use Rattle.std.proofs.lemmas.Bool.{false≢true, cases_lt}
use Rattle.std.proofs.lemmas.Option.{none-some, same_Some, slice_get_within}
use Rattle.velo_events.specs.declared.event.Event.{Event}
use Rattle.velo_events.specs.Place.{Place, is_recorded, last_position, last_at}

-- ---- the last position that passes a test

pub last_position-nil : (test : Event → Bool) → last_position test [] ≡ None
unfolding last_position
last_position-nil test = refl

last_position-cons : (test : Event → Bool) (e : Event) (es : List Event) → last_position test (e ∷ es) ≡ option_or (option_map suc (last_position test es)) (if test e then Some 0 else None)
unfolding last_position
last_position-cons test e es = refl

one_more : (b c : Bool) (n : ℕ) (o : Option ℕ) → option_or (option_map suc (if b then Some n else o)) (if c then Some 0 else None) ≡ (if b then Some (suc n) else option_or (option_map suc o) (if c then Some 0 else None))
one_more true c n o = refl
one_more false c n o = refl

-- an appended event that passes is the last
pub last_position-push : (test : Event → Bool) (trace : List Event) (e : Event) → last_position test (trace ++ e ∷ []) ≡ (if test e then Some (length trace) else last_position test trace)
last_position-push test [] e =
    last_position-cons test e [] ∙ (ap (λ o. option_or (option_map suc o) (if test e then Some 0 else None)) (last_position-nil test)
    ∙ ap (λ o. if test e then Some 0 else o) (sym (last_position-nil test)))
last_position-push test (f ∷ fs) e =
    last_position-cons test f (fs ++ e ∷ [])
    ∙ (ap (λ o. option_or (option_map suc o) (if test f then Some 0 else None)) (last_position-push test fs e)
    ∙ (one_more (test e) (test f) (length fs) (last_position test fs)
    ∙ ap (λ o. if test e then Some (suc (length fs)) else o) (sym (last_position-cons test f fs))))

-- k is the position of the last event that passes the test
pub record IsLast (test : Event → Bool) (trace : List Event) (k : ℕ) : Type 0 where
  pub event : Event
  pub here : slice_get trace k ≡ Some event
  pub passes : IsTrue (test event)
  pub none_after : (i : ℕ) (f : Event) → k < i → slice_get trace i ≡ Some f → IsFalse (test f)

pub IsLast-within : (test : Event → Bool) (trace : List Event) (k : ℕ) → IsLast test trace k → k < length trace
IsLast-within test trace k last = slice_get_within trace k last.event last.here

not_next : (o : Option ℕ) (b : Bool) (k : ℕ) → option_or (option_map suc o) (if b then Some 0 else None) ≡ Some k →
    ((j : ℕ) × (o ≡ Some j) × (k ≡ suc j)) ⊎ ((o ≡ None) × (b ≡ true) × (k ≡ 0))
not_next (Some j) b k h = inl (j, refl, sym (same_Some (suc j) k h))
not_next None true k h = inr (refl, refl, sym (same_Some 0 k h))
not_next None false k h = absurd (none-some k h)

none_here : (o : Option ℕ) (b : Bool) → option_or (option_map suc o) (if b then Some 0 else None) ≡ None → (o ≡ None) × (b ≡ false)
none_here (Some j) b h = absurd (none-some (suc j) (sym h))
none_here None true h = absurd (none-some 0 (sym h))
none_here None false h = (refl, refl)

-- without a last position no event passes
pub last_position-none : (test : Event → Bool) (trace : List Event) → last_position test trace ≡ None → (i : ℕ) (f : Event) → slice_get trace i ≡ Some f → IsFalse (test f)
last_position-none test [] h i f at = absurd (none-some f at)
last_position-none test (e ∷ es) h zero f at =
    subst (λ g. IsFalse (test g)) (same_Some e f at) (none_here (last_position test es) (test e) (sym (last_position-cons test e es) ∙ h)).1
last_position-none test (e ∷ es) h (suc i) f at =
    last_position-none test es (none_here (last_position test es) (test e) (sym (last_position-cons test e es) ∙ h)).0 i f at

pub last_position-is : (test : Event → Bool) (trace : List Event) (k : ℕ) → last_position test trace ≡ Some k → IsLast test trace k
last_position-is test [] k h = absurd (none-some k (sym (last_position-nil test) ∙ h))
last_position-is test (e ∷ es) k h =
    ⊎_elim
    (λ later. let rest = last_position-is test es later.0 later.1 in record {
      event = rest.event;
      here = ap (slice_get (e ∷ es)) later.2 ∙ rest.here;
      passes = rest.passes;
      none_after = λ i f after at. next later.0 rest i f (subst (λ n. n < i) later.2 after) at;
    })
    (λ here. record {
      event = e;
      here = ap (slice_get (e ∷ es)) here.2;
      passes = here.1;
      none_after = λ i f after at. beyond here.0 i f (omega (arith, after)) at;
    })
    (not_next (last_position test es) (test e) k (sym (last_position-cons test e es) ∙ h))
  where
    next : (j : ℕ) → IsLast test es j → (i : ℕ) (f : Event) → suc j < i → slice_get (e ∷ es) i ≡ Some f → IsFalse (test f)
    next j rest zero f after at = absurd (omega (arith, after))
    next j rest (suc i) f after at = rest.none_after i f (omega (arith, after)) at

    beyond : last_position test es ≡ None → (i : ℕ) (f : Event) → 0 < i → slice_get (e ∷ es) i ≡ Some f → IsFalse (test f)
    beyond none zero f after at = absurd (omega (arith, after))
    beyond none (suc i) f after at = last_position-none test es none i f at

-- where an event passes there is a last one, at it or after it
pub last_position-at : (test : Event → Bool) (trace : List Event) (i : ℕ) (f : Event) → slice_get trace i ≡ Some f → IsTrue (test f) → (k : ℕ) × (last_position test trace ≡ Some k) × (i ≤ k)
last_position-at test trace i f at passes = go (last_position test trace) refl
  where
    go : (o : Option ℕ) → last_position test trace ≡ o → (k : ℕ) × (last_position test trace ≡ Some k) × (i ≤ k)
    go None h = absurd (false≢true (sym (last_position-none test trace h i f at) ∙ passes))
    go (Some k) h =
        let last = last_position-is test trace k h in
        (k, h, ⊎_elim (λ after. absurd (false≢true (sym (last.none_after i f after at) ∙ passes))) (λ upto. upto) (cases_lt k i))

-- ---- places

pub last_at-nil : (p : Place) → last_at p [] ≡ None
last_at-nil p = last_position-nil (λ f. is_recorded f p)

-- the last position of a place after one more event: this event, if it is recorded there, or what it was
pub last_at-push : (p : Place) (trace : List Event) (e : Event) → last_at p (trace ++ e ∷ []) ≡ (if is_recorded e p then Some (length trace) else last_at p trace)
last_at-push p trace e = last_position-push (λ f. is_recorded f p) trace e

pub last_at-is : (p : Place) (trace : List Event) (k : ℕ) → last_at p trace ≡ Some k → IsLast (λ f. is_recorded f p) trace k
last_at-is p trace k h = last_position-is (λ f. is_recorded f p) trace k h

pub last_at-within : (p : Place) (trace : List Event) (k : ℕ) → last_at p trace ≡ Some k → k < length trace
last_at-within p trace k h = IsLast-within (λ f. is_recorded f p) trace k (last_at-is p trace k h)
