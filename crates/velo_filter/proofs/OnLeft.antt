-- Which positions stay: a begin by its label, an end with its begin, any other by its lock or variable. And the open blocks of what
-- is left: those open in the log that stay.
use Rattle.std.proofs.Common.{◌≡◌, ℕ, zero, suc, ◌+◌, ◌<◌, ◌≤◌, Bool, true, false, not, cond, List, [], ◌∷◌, length, map, Some, refl, sym, ap, ◌∙◌, subst, arith, ⊎_elim}
use Rattle.std.specs.Prelude.{◌↔◌, ◌&&◌, ◌||◌, filter, slice_get, IsTrue, IsFalse}
use Rattle.std.proofs.lemmas.Bool.{cases_Bool, cases_lt, and_parts, and_from, and_right, or_left, or_right, or_from, both_ways, false_from_ne_true, not-true, eq-eqb, eqb-true, false≢true}
use Rattle.std.proofs.lemmas.Option.{slice_get_within, get_or_from_slice_get, same_Some, none-some}
use Rattle.velo_events.specs.declared.event.Event.{Event}
use Rattle.velo_events.specs.declared.event.Kind.{Kind}
use Rattle.velo_events.specs.declared.event.Kind.TheVariants.{Read, Write, Acquire, Release, AcquireShared, ReleaseShared, Begin, End, Fork, Join, Exit}
use Rattle.velo_events.specs.Event.{thread_of, is_by, is_begin, is_end, is_begin_by, is_end_by, lock_of, variable_of}
use Rattle.velo_events.specs.Block.{any_below, passes_at, is_open_at, is_in_block}
use Rattle.velo_events.proofs.OnBlocks.{any_below-at}
use Rattle.velo_events.proofs.OnOwners.{is_open_at-begins, is_in_block-parts, is_in_block-open}
use Rattle.velo_events.proofs.OnScans.{event_at, passes_at-is, passes_at-event, begin-no_end, end-no_begin, IsOpenAt-from, IsOpenAt-to}
use Rattle.velo_events.proofs.OnWellFormed.{any_below-never}
use Rattle.velo_filter.specs.Left.{Omitted, is_among, label_begun, begins_such, is_on_such, is_dissolved, ends_at, is_left_out, places_of, rest_of, place_of}
use Rattle.velo_filter.specs.Stacks.{popped, stack}
use Rattle.velo_filter.proofs.OnRanks.{rank, rank-zero, rank-stays, rank-goes, rank-le, rank-lt, rank-le_back, rank-one, rank-from, staying, staying-at, events_staying, events_staying-at, length-events_staying}
use Rattle.velo_filter.proofs.OnStacks.{Stands, stack-begin, stack-end, stack-other, is_open-stack, stack-closes, stack-closed}

-- ---- by kinds

begin-label_only : (left : Omitted) (e : Event) → IsFalse (is_begin e.kind) → IsFalse (begins_such left e)
begin-label_only left e h = by_kind e.kind h
  where
    by_kind : (k : Kind) → IsFalse (is_begin k) → IsFalse (is_among left.labels (label_begun k))
    by_kind (Begin l) h = absurd (false≢true (sym h))
    by_kind (Read x v) h = refl
    by_kind (Write x v) h = refl
    by_kind (Acquire m) h = refl
    by_kind (Release m) h = refl
    by_kind (AcquireShared m) h = refl
    by_kind (ReleaseShared m) h = refl
    by_kind End h = refl
    by_kind (Fork u) h = refl
    by_kind (Join u) h = refl
    by_kind Exit h = refl

block-on_none : (left : Omitted) (e : Event) → IsTrue (is_begin e.kind || is_end e.kind) → IsFalse (is_on_such left e)
block-on_none left e h = by_kind e.kind h
  where
    by_kind : (k : Kind) → IsTrue (is_begin k || is_end k) → IsFalse (is_among left.locks (lock_of k) || is_among left.variables (variable_of k))
    by_kind (Begin l) h = refl
    by_kind End h = refl
    by_kind (Read x v) h = absurd (false≢true h)
    by_kind (Write x v) h = absurd (false≢true h)
    by_kind (Acquire m) h = absurd (false≢true h)
    by_kind (Release m) h = absurd (false≢true h)
    by_kind (AcquireShared m) h = absurd (false≢true h)
    by_kind (ReleaseShared m) h = absurd (false≢true h)
    by_kind (Fork u) h = absurd (false≢true h)
    by_kind (Join u) h = absurd (false≢true h)
    by_kind Exit h = absurd (false≢true h)

own_by : (t : ℕ) (e : Event) (k : Kind → Bool) → IsTrue (k e.kind) → IsTrue (is_by (thread_of e) e && k e.kind)
own_by t e k h = and_from _ _ (eq-eqb (thread_of e) (thread_of e) refl) h

-- ---- which positions stay

module _ (left : Omitted) (log : List Event) where
  ends_at-is : (b n : ℕ) (e : Event) → slice_get log n ≡ Some e → ends_at log b n ≡ (is_open_at log (thread_of e) b n && not (is_open_at log (thread_of e) b (n + 1)))
  unfolding ends_at
  ends_at-is b n e here = passes_at-is log (λ f. is_open_at log (thread_of f) b n && not (is_open_at log (thread_of f) b (n + 1))) n e here

  pub is_dissolved-is : (n : ℕ) (e : Event) → slice_get log n ≡ Some e → is_dissolved left log n ≡ begins_such left e
  unfolding is_dissolved
  is_dissolved-is n e here = passes_at-is log (begins_such left) n e here

  -- only an end closes a block
  closes : ℕ → ℕ → Bool
  closes n b = is_dissolved left log b && ends_at log b n

  closes-none : (n : ℕ) (e : Event) → slice_get log n ≡ Some e → IsFalse (is_end e.kind) → IsFalse (any_below n (λ b. is_dissolved left log b && ends_at log b n))
  closes-none n e here h = any_below-never n _ (λ b l. and_right _ _ (false_from_ne_true _ (λ ended.
      let p = and_parts (is_open_at log (thread_of e) b n) (not (is_open_at log (thread_of e) b (n + 1))) (sym (ends_at-is b n e here) ∙ ended) in
      let q = (stack-closed log (thread_of e) n b e here l p.0 (not-true _ p.1)).0 in
      both_ways (is_end e.kind) h (and_parts (is_by (thread_of e) e) (is_end e.kind) q).1)))

  -- a begin is left out by its label
  pub is_left_out-begin : (n : ℕ) (e : Event) → slice_get log n ≡ Some e → IsTrue (is_begin e.kind) → is_left_out left log n ≡ is_dissolved left log n
  unfolding is_left_out
  is_left_out-begin n e here h =
      ap (λ x. is_dissolved left log n || x || passes_at log (is_on_such left) n) (closes-none n e here (begin-no_end e.kind h))
      ∙ (ap (λ x. is_dissolved left log n || false || x) (passes_at-is log (is_on_such left) n e here ∙ block-on_none left e (or_left _ _ h))
      ∙ elim (is_dissolved left log n) as (λ b. (b || false || false) ≡ b) [ true ↦ refl | false ↦ refl ])

  -- an end with the begin of its block
  pub is_left_out-end : (n b : ℕ) (e : Event) → slice_get log n ≡ Some e → IsTrue (is_end e.kind) → (bs : List ℕ) → stack log (thread_of e) n ≡ b ∷ bs → is_left_out left log n ≡ is_dissolved left log b
  unfolding is_left_out
  is_left_out-end n b e here h bs top = ⊎_elim
      (λ d. or_from_left d ∙ sym d)
      (λ d. or_from _ _ (or_from _ _ not_begun (none d)) not_on ∙ sym d)
      (cases_Bool (is_dissolved left log b))
    where
      t : ℕ
      t = thread_of e

      ended : IsTrue (is_end_by (thread_of e) e)
      ended = and_from _ _ (eq-eqb (thread_of e) (thread_of e) refl) h

      not_begun : IsFalse (is_dissolved left log n)
      not_begun = is_dissolved-is n e here ∙ begin-label_only left e (end-no_begin e.kind h)

      not_on : IsFalse (passes_at log (is_on_such left) n)
      not_on = passes_at-is log (is_on_such left) n e here ∙ block-on_none left e (or_right _ _ h)

      closing : (b < n) × IsTrue (is_open_at log (thread_of e) b n) × IsFalse (is_open_at log (thread_of e) b (n + 1))
      closing = stack-closes log (thread_of e) n b e here ended bs top

      or_from_left : IsTrue (is_dissolved left log b) → IsTrue (is_dissolved left log n || any_below n (λ c. is_dissolved left log c && ends_at log c n) || passes_at log (is_on_such left) n)
      or_from_left d = or_left _ _ (or_right _ _ (any_below-at n (λ c. is_dissolved left log c && ends_at log c n) b closing.0 (and_from _ _ d (ends_at-is b n e here ∙ and_from _ _ closing.1 (ap not closing.2)))))

      none : IsFalse (is_dissolved left log b) → IsFalse (any_below n (λ c. is_dissolved left log c && ends_at log c n))
      none d = any_below-never n _ (λ c l. false_from_ne_true _ (λ both.
          let q = and_parts (is_dissolved left log c) (ends_at log c n) both in
          let p = and_parts (is_open_at log (thread_of e) c n) (not (is_open_at log (thread_of e) c (n + 1))) (sym (ends_at-is c n e here) ∙ q.1) in
          let w = (stack-closed log (thread_of e) n c e here l p.0 (not-true _ p.1)).1 in
          let same : b ≡ c = same_Some b c (ap (λ xs. slice_get xs 0) (sym top ∙ w.1)) in
          both_ways _ d (ap (is_dissolved left log) same ∙ q.0)))

  -- an end that closes no block stays
  pub is_left_out-end_alone : (n : ℕ) (e : Event) → slice_get log n ≡ Some e → IsTrue (is_end e.kind) → stack log (thread_of e) n ≡ [] → IsFalse (is_left_out left log n)
  unfolding is_left_out
  is_left_out-end_alone n e here h empty = or_from _ _
      (or_from _ _ (is_dissolved-is n e here ∙ begin-label_only left e (end-no_begin e.kind h))
      (any_below-never n _ (λ b l. and_right _ _ (false_from_ne_true _ (λ ended.
      let p = and_parts (is_open_at log (thread_of e) b n) (not (is_open_at log (thread_of e) b (n + 1))) (sym (ends_at-is b n e here) ∙ ended) in
      let w = (stack-closed log (thread_of e) n b e here l p.0 (not-true _ p.1)).1 in
      none-some b (ap (λ xs. slice_get xs 0) (sym empty ∙ w.1)))))))
      (passes_at-is log (is_on_such left) n e here ∙ block-on_none left e (or_right _ _ h))

  -- any other event by its lock or variable
  pub is_left_out-other : (n : ℕ) (e : Event) → slice_get log n ≡ Some e → IsFalse (is_begin e.kind) → IsFalse (is_end e.kind) → is_left_out left log n ≡ is_on_such left e
  unfolding is_left_out
  is_left_out-other n e here h g =
      ap (λ x. x || any_below n (λ b. is_dissolved left log b && ends_at log b n) || passes_at log (is_on_such left) n) (is_dissolved-is n e here ∙ begin-label_only left e h)
      ∙ (ap (λ x. x || passes_at log (is_on_such left) n) (closes-none n e here g) ∙ passes_at-is log (is_on_such left) n e here)

  -- ---- the log with only these

  abbrev pub stays : ℕ → Bool
  stays i = not (is_left_out left log i)

  pub rest_of-is : rest_of left log ≡ events_staying log stays (length log)
  unfolding rest_of places_of
  rest_of-is = refl

  abbrev pub sub : List Event
  sub = events_staying log stays (length log)

  pub length-sub : length sub ≡ rank stays (length log)
  length-sub = length-events_staying log stays (length log) (omega arith)

  pub sub-at : (i : ℕ) → i < length log → IsTrue (stays i) → slice_get sub (rank stays i) ≡ slice_get log i
  sub-at i l h = events_staying-at log stays (length log) i (omega arith) l h

  pub sub-within : (i : ℕ) → i < length log → IsTrue (stays i) → rank stays i < length sub
  sub-within i l h = let less = rank-lt stays i (length log) h l in let long = length-sub in omega (arith, less, long)

  pub sub-passes : (test : Event → Bool) (i : ℕ) → i < length log → IsTrue (stays i) → passes_at sub test (rank stays i) ≡ passes_at log test i
  unfolding passes_at
  sub-passes test i l h = rw (sub-at i l h) refl

  pub place-rank : (i : ℕ) → i < length log → IsTrue (stays i) → place_of left log (rank stays i) ≡ i
  unfolding place_of places_of
  place-rank i l h = get_or_from_slice_get (staying stays (length log)) (rank stays i) i 0 (staying-at stays (length log) i l h)

  -- each position of what is left stands for one that stays
  pub record StandsFor (k i : ℕ) : Type 0 where
    pub within : i < length log
    pub here : IsTrue (stays i)
    pub ranked : rank stays i ≡ k
    pub placed : place_of left log k ≡ i

  pub stands_for : (k : ℕ) → k < length sub → StandsFor k (place_of left log k)
  stands_for k l =
      let long = length-sub in
      let w = rank-from stays (length log) k (omega (arith, l, long)) in
      let placed : place_of left log k ≡ w.0 = ap (place_of left log) (sym w.3) ∙ place-rank w.0 w.1 w.2 in
      subst (StandsFor k) (sym placed) (record { within = w.1; here = w.2; ranked = w.3; placed = placed })

  -- ---- the open blocks of what is left

  abbrev kept_stack : List ℕ → List ℕ
  kept_stack bs = map (rank stays) (filter stays bs)

  kept-yes : (b : ℕ) (bs : List ℕ) → IsTrue (stays b) → kept_stack (b ∷ bs) ≡ rank stays b ∷ kept_stack bs
  kept-yes b bs h = ap (λ x. map (rank stays) (cond x (b ∷ filter stays bs) (filter stays bs))) h

  kept-no : (b : ℕ) (bs : List ℕ) → IsFalse (stays b) → kept_stack (b ∷ bs) ≡ kept_stack bs
  kept-no b bs h = ap (λ x. map (rank stays) (cond x (b ∷ filter stays bs) (filter stays bs))) h

  -- an end stays exactly where the begin of its block does
  pub stays-end : (n b : ℕ) (e : Event) → slice_get log n ≡ Some e → IsTrue (is_end e.kind) → (bs : List ℕ) → stack log (thread_of e) n ≡ b ∷ bs → stays n ≡ stays b
  stays-end n b e here h bs top =
      let closing = stack-closes log (thread_of e) n b e here (own_by (thread_of e) e is_end h) bs top in
      let f = passes_at-event log (λ g. is_begin g.kind) b (is_open_at-begins log (thread_of e) b n closing.1) in
      ap not (is_left_out-end n b e here h bs top ∙ sym (is_left_out-begin b f.0 f.1 f.2))

  popped-same : (n : ℕ) (bs : List ℕ) → IsTrue (stays n) → ((b : ℕ) (cs : List ℕ) → bs ≡ b ∷ cs → stays n ≡ stays b) → popped (kept_stack bs) ≡ kept_stack (popped bs)
  popped-same n [] h same = refl
  popped-same n (b ∷ bs) h same = ap popped (kept-yes b bs (sym (same b bs refl) ∙ h))

  popped-gone : (n : ℕ) (bs : List ℕ) → IsFalse (stays n) → ((b : ℕ) (cs : List ℕ) → bs ≡ b ∷ cs → stays n ≡ stays b) → kept_stack bs ≡ kept_stack (popped bs)
  popped-gone n [] h same = refl
  popped-gone n (b ∷ bs) h same = kept-no b bs (sym (same b bs refl) ∙ h)

  module _ (t n : ℕ) (e : Event) (here : slice_get log n ≡ Some e) where
    as_end : IsTrue (is_end_by t e) → (b : ℕ) (cs : List ℕ) → stack log t n ≡ b ∷ cs → stays n ≡ stays b
    as_end h b cs top =
        let p = and_parts (is_by t e) (is_end e.kind) h in
        stays-end n b e here p.1 cs (ap (λ u. stack log u n) (eqb-true (thread_of e) t p.0) ∙ top)

    stack-stays : IsTrue (stays n) → stack sub t (rank stays n) ≡ kept_stack (stack log t n) → stack sub t (suc (rank stays n)) ≡ kept_stack (stack log t (suc n))
    stack-stays h before = ⊎_elim
        (λ g. stack-begin sub t (rank stays n) e there g ∙ (ap (λ bs. rank stays n ∷ bs) before ∙ (sym (kept-yes n (stack log t n) h) ∙ ap kept_stack (sym (stack-begin log t n e here g)))))
        (λ g. ⊎_elim
        (λ f. stack-end sub t (rank stays n) e there f ∙ (ap popped before ∙ (popped-same n (stack log t n) h (as_end f) ∙ ap kept_stack (sym (stack-end log t n e here f)))))
        (λ f. stack-other sub t (rank stays n) e there g f ∙ (before ∙ ap kept_stack (sym (stack-other log t n e here g f))))
        (cases_Bool (is_end_by t e)))
        (cases_Bool (is_begin_by t e))
      where
        there : slice_get sub (rank stays n) ≡ Some e
        there = sub-at n (slice_get_within log n e here) h ∙ here

    stack-goes : IsFalse (stays n) → kept_stack (stack log t n) ≡ kept_stack (stack log t (suc n))
    stack-goes h = ⊎_elim
        (λ g. sym (kept-no n (stack log t n) h) ∙ ap kept_stack (sym (stack-begin log t n e here g)))
        (λ g. ⊎_elim
        (λ f. popped-gone n (stack log t n) h (as_end f) ∙ ap kept_stack (sym (stack-end log t n e here f)))
        (λ f. ap kept_stack (sym (stack-other log t n e here g f)))
        (cases_Bool (is_end_by t e)))
        (cases_Bool (is_begin_by t e))

  -- the open blocks of what is left are those of the log that stay
  pub stack-rest : (t n : ℕ) → n ≤ length log → stack sub t (rank stays n) ≡ map (rank stays) (filter stays (stack log t n))
  unfolding stack
  stack-rest t zero l = ap (stack sub t) (rank-zero stays)
  stack-rest t (suc n) l =
      let e = event_at log n (omega arith) in
      let before = stack-rest t n (omega arith) in
      ⊎_elim
      (λ h. ap (stack sub t) (rank-stays stays n h ∙ (let one : rank stays n + 1 ≡ suc (rank stays n) = omega arith in one)) ∙ stack-stays t n e.0 e.1 h before)
      (λ h. ap (stack sub t) (rank-goes stays n h) ∙ (before ∙ stack-goes t n e.0 e.1 h))
      (cases_Bool (stays n))

  kept-stands : (bs : List ℕ) (b : ℕ) → IsTrue (stays b) → Stands bs b → Stands (kept_stack bs) (rank stays b)
  kept-stands [] b h s = absurd (none-some b s.1)
  kept-stands (c ∷ bs) b h s = at (λ w. kept-stands bs b h w) s.0 s.1
    where
      deeper : Stands (kept_stack bs) (rank stays b) → Stands (kept_stack (c ∷ bs)) (rank stays b)
      deeper w = ⊎_elim
          (λ g. subst (λ xs. Stands xs (rank stays b)) (sym (kept-yes c bs g)) (suc w.0, w.1))
          (λ g. subst (λ xs. Stands xs (rank stays b)) (sym (kept-no c bs g)) w)
          (cases_Bool (stays c))

      at : (Stands bs b → Stands (kept_stack bs) (rank stays b)) → (j : ℕ) → slice_get (c ∷ bs) j ≡ Some b → Stands (kept_stack (c ∷ bs)) (rank stays b)
      at rest zero is = let first : c ≡ b = same_Some c b is in subst (λ xs. Stands xs (rank stays b)) (sym (kept-yes c bs (ap stays first ∙ h))) (0, ap (λ k. Some (rank stays k)) first)
      at rest (suc j) is = deeper (rest (j, is))

  kept-from : (bs : List ℕ) (k : ℕ) → Stands (kept_stack bs) k → (b : ℕ) × Stands bs b × IsTrue (stays b) × (rank stays b ≡ k)
  kept-from [] k s = absurd (none-some k s.1)
  kept-from (c ∷ bs) k s = ⊎_elim
      (λ g. let w = subst (λ xs. Stands xs k) (kept-yes c bs g) s in at (λ v. kept-from bs k v) g w.0 w.1)
      (λ g. deeper (kept-from bs k (subst (λ xs. Stands xs k) (kept-no c bs g) s)))
      (cases_Bool (stays c))
    where
      deeper : (b : ℕ) × Stands bs b × IsTrue (stays b) × (rank stays b ≡ k) → (b : ℕ) × Stands (c ∷ bs) b × IsTrue (stays b) × (rank stays b ≡ k)
      deeper w = (w.0, (suc w.1.0, w.1.1), w.2, w.3)

      at : (Stands (kept_stack bs) k → (b : ℕ) × Stands bs b × IsTrue (stays b) × (rank stays b ≡ k)) → IsTrue (stays c) → (j : ℕ) → slice_get (rank stays c ∷ kept_stack bs) j ≡ Some k → (b : ℕ) × Stands (c ∷ bs) b × IsTrue (stays b) × (rank stays b ≡ k)
      at rest g zero is = (c, (0, refl), g, same_Some (rank stays c) k is)
      at rest g (suc j) is = deeper (rest (j, is))

  -- a block that stays is open in what is left where it is in the log
  pub is_open-rest : (t b n : ℕ) → b < n → n ≤ length log → IsTrue (stays b) → IsTrue (is_open_at sub t (rank stays b) (rank stays n)) ↔ IsTrue (is_open_at log t b n)
  is_open-rest t b n l most h =
      let long = length-sub in
      let upto = rank-le stays n (length log) most in
      let law = is_open-stack sub t (rank stays b) (rank stays n) (rank-lt stays b n h l) (omega (arith, long, upto)) in
      let old = is_open-stack log t b n l most in (
        (λ o.
            let w = kept-from (stack log t n) (rank stays b) (subst (λ xs. Stands xs (rank stays b)) (stack-rest t n most) (law.0 o)) in
            old.1 (subst (Stands (stack log t n)) (rank-one stays w.0 b w.2 h w.3) w.1)),
        (λ o. law.1 (subst (λ xs. Stands xs (rank stays b)) (sym (stack-rest t n most)) (kept-stands (stack log t n) b h (old.0 o)))),
      )

  -- a begin is open where it stands
  open_here : (trace : List Event) (t b : ℕ) → IsTrue (passes_at trace (is_begin_by t) b) → IsTrue (is_open_at trace t b b)
  open_here trace t b h = IsOpenAt-to trace t b b (record { begun = h; unbalanced = λ k l m. absurd (omega (arith, l, m)) })

  open-rest : (t b n : ℕ) → b ≤ n → n < length log → IsTrue (stays b) → IsTrue (is_open_at sub t (rank stays b) (rank stays n)) ↔ IsTrue (is_open_at log t b n)
  open-rest t b n l m h = ⊎_elim
      (λ under. is_open-rest t b n under (omega (arith, m)) h)
      (λ above. subst (λ k. IsTrue (is_open_at sub t (rank stays b) (rank stays k)) ↔ IsTrue (is_open_at log t b k)) (let same : b ≡ n = omega (arith, l, above) in same)
      (let begun = sub-passes (is_begin_by t) b (omega (arith, l, m)) h in (
        (λ o. open_here log t b (sym begun ∙ (IsOpenAt-from sub t (rank stays b) (rank stays b) o).begun)),
        (λ o. open_here sub t (rank stays b) (begun ∙ (IsOpenAt-from log t b b o).begun)),
      )))
      (cases_lt b n)

  -- and has there the positions that stay of those that it has in the log
  pub in_block-rest : (b i : ℕ) → b < length log → i < length log → IsTrue (stays b) → IsTrue (stays i) → IsTrue (is_in_block sub (rank stays b) (rank stays i)) ↔ IsTrue (is_in_block log b i)
  in_block-rest b i within_b within_i h g = (
    (λ inside.
        let w = is_in_block-parts sub (rank stays b) (rank stays i) inside in
        let from = rank-le_back stays b i g w.0 in
        is_in_block-open log w.1.0 b i i ((open-rest w.1.0 b i from within_i h).0 w.1.2) from (omega arith) (sym (sub-passes (is_by w.1.0) i within_i g) ∙ w.1.1)),
    (λ inside.
        let w = is_in_block-parts log b i inside in
        is_in_block-open sub w.1.0 (rank stays b) (rank stays i) (rank stays i) ((open-rest w.1.0 b i w.0 within_i h).1 w.1.2) (rank-le stays b i w.0) (omega arith) (sub-passes (is_by w.1.0) i within_i g ∙ w.1.1)),
  )
