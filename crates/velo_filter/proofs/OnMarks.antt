-- The marks before an event tell whether it stays, and the marks behind it.
use Rattle.std.proofs.Common.{◌≡◌, ◌≢◌, ℕ, zero, suc, ◌+◌, ◌*◌, ◌/◌, ◌%◌, ◌<◌, ◌≤◌, Bool, true, false, cond, List, [], ◌∷◌, length, map, get_or, Some, refl, sym, ap, ◌∙◌, arith, ⊎_elim}
use Rattle.std.specs.Prelude.{◌||◌, ◌==◌, if◌then◌else◌, slice_get, slice_index, slice_set, IsTrue, IsFalse}
use Rattle.std.proofs.lemmas.Bool.{cases_eq, and_from, and_left, and_right, eq-eqb, ne_eqb}
use Rattle.std.proofs.lemmas.Option.{slice_get-get_or}
use Rattle.std.proofs.lemmas.Nat.{div-mul-add}
use Rattle.std.proofs.lemmas.List.{length-map, length-set}
use Rattle.velo_events.specs.declared.event.Event.{Event}
use Rattle.velo_events.specs.declared.event.Kind.{Kind}
use Rattle.velo_events.specs.declared.event.Label.{Label}
use Rattle.velo_events.specs.declared.event.Kind.TheVariants.{Begin, End}
use Rattle.velo_events.specs.Event.{thread_of, is_begin, is_end, lock_of, variable_of}
use Rattle.velo_events.proofs.OnLists.{get_or-set}
use Rattle.velo_traces.proofs.Past.{past}
use Rattle.velo_filter.specs.Left.{Omitted, is_among, label_begun, is_dissolved, is_left_out}
use Rattle.velo_filter.specs.Marks.{number_of, AreMarks, IsShallow}
use Rattle.velo_filter.specs.Stacks.{popped, stack}
use Rattle.velo_filter.proofs.OnLeft.{is_dissolved-is, is_left_out-begin, is_left_out-end, is_left_out-end_alone, is_left_out-other}
use Rattle.velo_filter.proofs.OnStacks.{stack-begin, stack-end, stack-other}

-- ---- numbers

number_of-nil : number_of [] ≡ 0
unfolding number_of
number_of-nil = refl

number_of-cons : (b : Bool) (bs : List Bool) → number_of (b ∷ bs) ≡ number_of bs * 2 + (if b then 1 else 0)
unfolding number_of
number_of-cons b bs = refl

bit-small : (b : Bool) → cond {A = ℕ} b 1 0 < 2
bit-small true = omega arith
bit-small false = omega arith

number_of-half : (b : Bool) (bs : List Bool) → number_of (b ∷ bs) / 2 ≡ number_of bs
number_of-half b bs = ap (λ n. n / 2) (number_of-cons b bs) ∙ div-mul-add (number_of bs) 2 (cond {A = ℕ} b 1 0) (bit-small b)

number_of-bit : (b : Bool) (bs : List Bool) → number_of (b ∷ bs) % 2 ≡ (if b then 1 else 0)
number_of-bit b bs = let s = bit-small b in let e = number_of-cons b bs in omega (arith, s, e)

-- doubled so many times
doubled : ℕ → ℕ
doubled zero = 1
doubled (suc n) = doubled n * 2

doubled-le : (m n : ℕ) → m ≤ n → doubled m ≤ doubled n
unfolding doubled
doubled-le zero zero l = omega arith
doubled-le (suc m) zero l = absurd (omega (arith, l))
doubled-le zero (suc n) l = let rest = doubled-le zero n (omega arith) in omega (arith, rest)
doubled-le (suc m) (suc n) l = let rest = doubled-le m n (omega (arith, l)) in omega (arith, rest)

number_of-below : (bs : List Bool) → number_of bs < doubled (length bs)
unfolding doubled
number_of-below [] = let e = number_of-nil in omega (arith, e)
number_of-below (b ∷ bs) = let rest = number_of-below bs in let s = bit-small b in let e = number_of-cons b bs in omega (arith, rest, s, e)

-- with 32 blocks at most the number has 32 bits
pub number_of-small : (bs : List Bool) → length bs ≤ 32 → number_of bs < 4294967296
unfolding doubled
number_of-small bs l = let low = number_of-below bs in let high = doubled-le (length bs) 32 l in let top : doubled 32 ≡ 4294967296 = refl in omega (arith, low, high, top)

module _ (left : Omitted) (log : List Event) (n : ℕ) (within : n < length log) (rows : List ℕ) (w : AreMarks left log n rows) where
  abbrev event : Event
  event = get_or log n past

  abbrev t : ℕ
  t = thread_of event

  here : slice_get log n ≡ Some event
  here = slice_get-get_or log n past within

  -- the marks of other threads stay
  other_stack : (u : ℕ) → t ≢ u → stack log u (suc n) ≡ stack log u n
  other_stack u differ = stack-other log u n event here (and_left _ _ (ne_eqb t u differ)) (and_left _ _ (ne_eqb t u differ))

  one : n + 1 ≡ suc n
  one = omega arith

  -- the row of the thread changed
  AreMarks-set : (x : ℕ) → t < length rows → x ≡ number_of (map (is_dissolved left log) (stack log t (suc n))) → AreMarks left log (n + 1) (slice_set rows t x)
  AreMarks-set x inside is = record {
    each = λ u l.
        ap (λ k. slice_index (slice_set rows t x) u) one
        ∙ (get_or-set rows t u x 0 inside
        ∙ (⊎_elim
        (λ e. ap (λ b. if b then x else slice_index rows u) (eq-eqb t u e) ∙ (is ∙ ap (λ k. number_of (map (is_dissolved left log) (stack log k (suc n)))) e))
        (λ d. ap (λ b. if b then x else slice_index rows u) (ne_eqb t u d) ∙ (w.each u (let long = length-set rows t x in omega (arith, l, long)) ∙ ap (λ bs. number_of (map (is_dissolved left log) bs)) (sym (other_stack u d))))
        (cases_eq t u)
        ∙ ap (λ k. number_of (map (is_dissolved left log) (stack log u k))) (sym one)));
  }

  -- or none
  pub AreMarks-same : IsFalse (is_begin event.kind) → IsFalse (is_end event.kind) → AreMarks left log (n + 1) rows
  AreMarks-same h g = record {
    each = λ u l. w.each u l
        ∙ ap (λ bs. number_of (map (is_dissolved left log) bs)) (sym (stack-other log u n event here (and_right _ _ h) (and_right _ _ g)) ∙ ap (stack log u) (sym one));
  }

  -- ---- a begin

  module _ (l : Label) (is : event.kind ≡ Begin l) where
    begins : IsTrue (is_begin event.kind)
    begins = ap is_begin is

    dissolved : is_dissolved left log n ≡ left.labels l.0
    dissolved = is_dissolved-is left log n event here ∙ ap (λ k. is_among left.labels (label_begun k)) is

    pub is_left_out-Begin : is_left_out left log n ≡ left.labels l.0
    is_left_out-Begin = is_left_out-begin left log n event here begins ∙ dissolved

    pub AreMarks-Begin : t < length rows → (out : Bool) → out ≡ left.labels l.0 → AreMarks left log (n + 1) (slice_set rows t (slice_index rows t * 2 + (if out then 1 else 0)))
    AreMarks-Begin inside out label = AreMarks-set (slice_index rows t * 2 + (if out then 1 else 0)) inside
        (ap (λ k. k * 2 + (if out then 1 else 0)) (w.each t inside)
        ∙ (ap (λ b. number_of (map (is_dissolved left log) (stack log t n)) * 2 + (if b then 1 else 0)) (label ∙ sym dissolved)
        ∙ (sym (number_of-cons (is_dissolved left log n) (map (is_dissolved left log) (stack log t n)))
        ∙ ap (λ bs. number_of (map (is_dissolved left log) bs)) (sym (stack-begin log t n event here (and_from _ _ (eq-eqb t t refl) begins))))))

  -- ---- an end

  module _ (is : event.kind ≡ End) where
    ends : IsTrue (is_end event.kind)
    ends = ap is_end is

    half : (bs : List ℕ) → number_of (map (is_dissolved left log) bs) / 2 ≡ number_of (map (is_dissolved left log) (popped bs))
    half [] = ap (λ k. k / 2) number_of-nil ∙ sym number_of-nil
    half (b ∷ bs) = number_of-half (is_dissolved left log b) (map (is_dissolved left log) bs)

    bit : (bs : List ℕ) → stack log t n ≡ bs → (number_of (map (is_dissolved left log) bs) % 2 == 1) ≡ is_left_out left log n
    bit [] top = ap (λ k. k % 2 == 1) number_of-nil ∙ sym (is_left_out-end_alone left log n event here ends top)
    bit (b ∷ bs) top =
        ap (λ k. k == 1) (number_of-bit (is_dissolved left log b) (map (is_dissolved left log) bs))
        ∙ (elim (is_dissolved left log b) as (λ d. (cond {A = ℕ} d 1 0 == 1) ≡ d) [ true ↦ refl | false ↦ refl ]
        ∙ sym (is_left_out-end left log n b event here ends bs top))

    pub is_left_out-End : t < length rows → (slice_index rows t % 2 == 1) ≡ is_left_out left log n
    is_left_out-End inside = ap (λ k. k % 2 == 1) (w.each t inside) ∙ bit (stack log t n) refl

    pub AreMarks-End : t < length rows → AreMarks left log (n + 1) (slice_set rows t (slice_index rows t / 2))
    AreMarks-End inside = AreMarks-set (slice_index rows t / 2) inside
        (ap (λ k. k / 2) (w.each t inside)
        ∙ (half (stack log t n) ∙ ap (λ bs. number_of (map (is_dissolved left log) bs)) (sym (stack-end log t n event here (and_from _ _ (eq-eqb t t refl) ends)))))

  -- ---- any other

  pub is_left_out-kind : (k : Kind) → event.kind ≡ k → IsFalse (is_begin k) → IsFalse (is_end k) → is_left_out left log n ≡ (is_among left.locks (lock_of k) || is_among left.variables (variable_of k))
  is_left_out-kind k is h g = is_left_out-other left log n event here (ap is_begin is ∙ h) (ap is_end is ∙ g) ∙ ap (λ j. is_among left.locks (lock_of j) || is_among left.variables (variable_of j)) is

  -- the row is small
  pub row-small : IsShallow log → t < length rows → slice_index rows t < 4294967296
  row-small shallow inside =
      let few = shallow.each t n (omega (arith, within)) in
      let small = number_of-small (map (is_dissolved left log) (stack log t n)) (omega (arith, few, length-map (stack log t n) (is_dissolved left log))) in
      omega (arith, small, w.each t inside)
