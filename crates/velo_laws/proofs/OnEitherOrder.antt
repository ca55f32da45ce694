-- A log without some positions where no block begins or ends, and without the blocks of some labels: in either order the same is left.
use Rattle.std.proofs.Common.{◌≡◌, ℕ, zero, suc, ◌+◌, ◌<◌, ◌≤◌, Bool, not, List, [], ◌∷◌, ◌++◌, length, map, Some, refl, sym, ap, ◌∙◌, arith, ⊎_elim}
use Rattle.std.specs.Prelude.{◌&&◌, ◌||◌, slice_get, IsTrue, IsFalse}
use Rattle.std.proofs.lemmas.Bool.{cases_Bool, and_from, and_left, and_right, or_left, both_ways, eq-eqb, false≢true, false_from_ne_true}
use Rattle.velo_events.specs.declared.event.Event.{Event}
use Rattle.velo_events.specs.declared.event.Kind.{Kind}
use Rattle.velo_events.specs.declared.event.Kind.TheVariants.{Begin, End}
use Rattle.velo_events.specs.Event.{thread_of, is_by, is_begin, is_end, is_begin_by, is_end_by}
use Rattle.velo_events.proofs.OnScans.{event_at, passes_at-event}
use Rattle.velo_events.proofs.OnOwners.{is_open_at-begins, is_open_at-within}
use Rattle.velo_filter.specs.Left.{Omitted, begins_such, is_dissolved, is_left_out, rest_of, place_of}
use Rattle.velo_filter.specs.Stacks.{popped, stack}
use Rattle.velo_filter.proofs.OnRanks.{rank, rank-zero, rank-stays, rank-goes, rank-le, events_staying, events_staying-stays, events_staying-goes, events_staying-at, length-events_staying}
use Rattle.velo_filter.proofs.OnStacks.{stack-begin, stack-end, stack-other, stack-closes}
use Rattle.velo_filter.proofs.OnLeft.{stays, sub, rest_of-is, length-sub, place-rank, is_dissolved-is, is_left_out-begin, is_left_out-end, is_left_out-end_alone, is_left_out-other}
use Rattle.velo_laws.proofs.OnDropped.{sub-passes}

pub inner-parts : (k : Kind) → IsFalse (is_begin k || is_end k) → IsFalse (is_begin k) × IsFalse (is_end k)
inner-parts (Begin l) h = absurd (false≢true (sym h))
inner-parts End h = absurd (false≢true (sym h))
inner-parts _ h = (refl, refl)

-- two tests that agree leave the same
pub events_staying-same : (log : List Event) (p q : ℕ → Bool) (n : ℕ) → n ≤ length log → ((i : ℕ) → i < length log → p i ≡ q i) → events_staying log p n ≡ events_staying log q n
events_staying-same log p q zero l same = refl
events_staying-same log p q (suc n) l same =
    let e = event_at log n (omega arith) in
    let rest = events_staying-same log p q n (omega arith) same in
    let one = same n (omega arith) in
    ⊎_elim
    (λ h. events_staying-stays log p n e.0 e.1 (one ∙ h) ∙ (ap (λ es. es ++ e.0 ∷ []) rest ∙ sym (events_staying-stays log q n e.0 e.1 h)))
    (λ h. events_staying-goes log p n (one ∙ h) ∙ (rest ∙ sym (events_staying-goes log q n h)))
    (cases_Bool (q n))

module _ (log : List Event) (keeps : ℕ → Bool) (blocks : (i : ℕ) (e : Event) → slice_get log i ≡ Some e → IsTrue (is_begin e.kind || is_end e.kind) → IsTrue (keeps i)) where
  abbrev pub kept : List Event
  kept = events_staying log keeps (length log)

  abbrev pub at : ℕ → ℕ
  at i = rank keeps i

  pub kept-at : (i : ℕ) → i < length log → IsTrue (keeps i) → slice_get kept (at i) ≡ slice_get log i
  kept-at i l h = events_staying-at log keeps (length log) i (omega arith) l h

  -- ---- the open blocks are those of the log

  popped-map : (bs : List ℕ) → popped (map at bs) ≡ map at (popped bs)
  popped-map [] = refl
  popped-map (b ∷ bs) = refl

  stack-stays : (t n : ℕ) (e : Event) → slice_get log n ≡ Some e → slice_get kept (at n) ≡ Some e → stack kept t (at n) ≡ map at (stack log t n) → stack kept t (suc (at n)) ≡ map at (stack log t (suc n))
  stack-stays t n e here there before = ⊎_elim
      (λ g. stack-begin kept t (at n) e there g ∙ (ap (λ bs. at n ∷ bs) before ∙ ap (map at) (sym (stack-begin log t n e here g))))
      (λ g. ⊎_elim
      (λ f. stack-end kept t (at n) e there f ∙ (ap popped before ∙ (popped-map (stack log t n) ∙ ap (map at) (sym (stack-end log t n e here f)))))
      (λ f. stack-other kept t (at n) e there g f ∙ (before ∙ ap (map at) (sym (stack-other log t n e here g f))))
      (cases_Bool (is_end_by t e)))
      (cases_Bool (is_begin_by t e))

  stack-goes : (t n : ℕ) (e : Event) → slice_get log n ≡ Some e → IsFalse (keeps n) → stack log t (suc n) ≡ stack log t n
  stack-goes t n e here h =
      let inner = inner-parts e.kind (false_from_ne_true _ (λ b. both_ways (keeps n) h (blocks n e here b))) in
      stack-other log t n e here (and_right (is_by t e) (is_begin e.kind) inner.0) (and_right (is_by t e) (is_end e.kind) inner.1)

  stack-kept : (t n : ℕ) → n ≤ length log → stack kept t (at n) ≡ map at (stack log t n)
  unfolding stack
  stack-kept t zero l = ap (stack kept t) (rank-zero keeps)
  stack-kept t (suc n) l =
      let e = event_at log n (omega arith) in
      let before = stack-kept t n (omega arith) in
      ⊎_elim
      (λ h. ap (stack kept t) (rank-stays keeps n h ∙ (let one : at n + 1 ≡ suc (at n) = omega arith in one)) ∙ stack-stays t n e.0 e.1 (kept-at n (omega arith) h ∙ e.1) before)
      (λ h. ap (stack kept t) (rank-goes keeps n h) ∙ (before ∙ ap (map at) (sym (stack-goes t n e.0 e.1 h))))
      (cases_Bool (keeps n))

  -- ---- so a position is left out of what is kept where it is left out of the log

  module _ (left : Omitted) where
    dissolved-kept : (b : ℕ) → b < length log → IsTrue (keeps b) → is_dissolved left kept (at b) ≡ is_dissolved left log b
    unfolding is_dissolved
    dissolved-kept b l h = sub-passes log keeps blocks (begins_such left) b l h

    left_out-end : (i : ℕ) (e : Event) → slice_get log i ≡ Some e → slice_get kept (at i) ≡ Some e → i < length log → IsTrue (is_end e.kind) → (bs : List ℕ) → stack log (thread_of e) i ≡ bs → is_left_out left kept (at i) ≡ is_left_out left log i
    left_out-end i e here there l g [] top =
        is_left_out-end_alone left kept (at i) e there g (stack-kept (thread_of e) i (omega (arith, l)) ∙ ap (map at) top)
        ∙ sym (is_left_out-end_alone left log i e here g top)
    left_out-end i e here there l g (b ∷ bs) top =
        let t = thread_of e in
        let opened = (stack-closes log t i b e here (and_from (is_by t e) (is_end e.kind) (eq-eqb t t refl) g) bs top).1 in
        let f = passes_at-event log (λ d. is_begin d.kind) b (is_open_at-begins log t b i opened) in
        is_left_out-end left kept (at i) (at b) e there g (map at bs) (stack-kept t i (omega (arith, l)) ∙ ap (map at) top)
        ∙ (dissolved-kept b (is_open_at-within log t b i opened) (blocks b f.0 f.1 (or_left (is_begin f.0.kind) (is_end f.0.kind) f.2))
        ∙ sym (is_left_out-end left log i b e here g bs top))

    pub left_out-kept : (i : ℕ) → i < length log → IsTrue (keeps i) → is_left_out left kept (at i) ≡ is_left_out left log i
    left_out-kept i l k =
        let e = event_at log i l in
        let there = kept-at i l k ∙ e.1 in
        ⊎_elim
        (λ h. is_left_out-begin left kept (at i) e.0 there h ∙ (is_dissolved-is left kept (at i) e.0 there ∙ sym (is_left_out-begin left log i e.0 e.1 h ∙ is_dissolved-is left log i e.0 e.1)))
        (λ h. ⊎_elim
        (λ g. left_out-end i e.0 e.1 there l g (stack log (thread_of e.0) i) refl)
        (λ g. is_left_out-other left kept (at i) e.0 there h g ∙ sym (is_left_out-other left log i e.0 e.1 h g))
        (cases_Bool (is_end e.0.kind)))
        (cases_Bool (is_begin e.0.kind))

    -- ---- both orders

    abbrev its : ℕ → Bool
    its = stays left log

    abbrev there : ℕ → Bool
    there = stays left kept

    -- what is kept, and stays
    abbrev pub both : ℕ → Bool
    both i = keeps i && its i

    after-step : (n : ℕ) → n ≤ length log → events_staying kept there (at n) ≡ events_staying log both n
    after-step zero l = ap (events_staying kept there) (rank-zero keeps)
    after-step (suc n) l =
        let e = event_at log n (omega arith) in
        let before = after-step n (omega arith) in
        ⊎_elim
        (λ h.
        let one : at (suc n) ≡ suc (at n) = (let r = rank-stays keeps n h in omega (arith, r)) in
        let same = ap not (left_out-kept n (omega arith) h) in
        ap (events_staying kept there) one ∙ ⊎_elim
        (λ stay. events_staying-stays kept there (at n) e.0 (kept-at n (omega arith) h ∙ e.1) (same ∙ stay) ∙ (ap (λ es. es ++ e.0 ∷ []) before ∙ sym (events_staying-stays log both n e.0 e.1 (and_from (keeps n) (its n) h stay))))
        (λ goes. events_staying-goes kept there (at n) (same ∙ goes) ∙ (before ∙ sym (events_staying-goes log both n (and_right (keeps n) (its n) goes))))
        (cases_Bool (its n)))
        (λ h. ap (events_staying kept there) (rank-goes keeps n h) ∙ (before ∙ sym (events_staying-goes log both n (and_left (keeps n) (its n) h))))
        (cases_Bool (keeps n))

    -- those of what is left that are kept
    abbrev pub keeps_then : ℕ → Bool
    keeps_then k = keeps (place_of left log k)

    before-step : (n : ℕ) → n ≤ length log → events_staying (sub left log) keeps_then (rank its n) ≡ events_staying log both n
    before-step zero l = ap (events_staying (sub left log) keeps_then) (rank-zero its)
    before-step (suc n) l =
        let e = event_at log n (omega arith) in
        let before = before-step n (omega arith) in
        ⊎_elim
        (λ h.
        let one : rank its (suc n) ≡ suc (rank its n) = (let r = rank-stays its n h in omega (arith, r)) in
        let same : keeps_then (rank its n) ≡ keeps n = ap keeps (place-rank left log n (omega arith) h) in
        ap (events_staying (sub left log) keeps_then) one ∙ ⊎_elim
        (λ stay. events_staying-stays (sub left log) keeps_then (rank its n) e.0 (events_staying-at log its (length log) n (omega arith) (omega arith) h ∙ e.1) (same ∙ stay) ∙ (ap (λ es. es ++ e.0 ∷ []) before ∙ sym (events_staying-stays log both n e.0 e.1 (and_from (keeps n) (its n) stay h))))
        (λ goes. events_staying-goes (sub left log) keeps_then (rank its n) (same ∙ goes) ∙ (before ∙ sym (events_staying-goes log both n (and_left (keeps n) (its n) goes))))
        (cases_Bool (keeps n)))
        (λ h. ap (events_staying (sub left log) keeps_then) (rank-goes its n h) ∙ (before ∙ sym (events_staying-goes log both n (and_right (keeps n) (its n) h))))
        (cases_Bool (its n))

    long : length kept ≡ at (length log)
    long = length-events_staying log keeps (length log) (omega arith)

    pub rest-after : rest_of left kept ≡ events_staying log both (length log)
    rest-after = rest_of-is left kept ∙ (ap (events_staying kept there) long ∙ after-step (length log) (omega arith))

    pub rest-before : events_staying (rest_of left log) keeps_then (length (rest_of left log)) ≡ events_staying log both (length log)
    rest-before =
        ap (λ es. events_staying es keeps_then (length es)) (rest_of-is left log)
        ∙ (ap (events_staying (sub left log) keeps_then) (length-sub left log) ∙ before-step (length log) (omega arith))

    -- a position that is kept and stays has one place
    pub rank-after : (n : ℕ) → n ≤ length log → rank there (at n) ≡ rank both n
    rank-after n l =
        sym (length-events_staying kept there (at n) (let most = rank-le keeps n (length log) l in let e = long in omega (arith, most, e)))
        ∙ (ap length (after-step n l) ∙ length-events_staying log both n l)

    pub rank-before : (n : ℕ) → n ≤ length log → rank keeps_then (rank its n) ≡ rank both n
    rank-before n l =
        sym (length-events_staying (sub left log) keeps_then (rank its n) (let most = rank-le its n (length log) l in let e = length-sub left log in omega (arith, most, e)))
        ∙ (ap length (before-step n l) ∙ length-events_staying log both n l)
