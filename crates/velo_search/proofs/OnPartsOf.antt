-- The parts that operations have by what is left out are those of the events of each run.
use Rattle.std.proofs.Common.{◌≡◌, ◌≢◌, ℕ, zero, suc, ◌+◌, ◌<◌, ◌≤◌, Bool, true, false, not, cond, List, [], ◌∷◌, ◌++◌, length, take, drop, map, Some, refl, sym, ap, ◌∙◌, subst, arith, ⊎_elim, append-nil}
use Rattle.std.proofs.Math.Dec.{eqb-suc-zero}
use Rattle.std.specs.Prelude.{◌||◌, ◌==◌, if◌then◌else◌, filter, slice_get, IsTrue, IsFalse}
use Rattle.std.specs.List.{list_any}
use Rattle.std.proofs.Math.Seq.{take-length}
use Rattle.std.proofs.lemmas.Bool.{cases_Bool, cases_eq, and_from, and_left, and_right, and_parts, eq-eqb, ne_eqb}
use Rattle.std.proofs.lemmas.List.{length-map, take-append-drop}
use Rattle.velo_events.specs.declared.config.Bounds.{Bounds}
use Rattle.velo_events.specs.declared.event.Event.{Event}
use Rattle.velo_events.specs.declared.event.Kind.{Kind}
use Rattle.velo_events.specs.declared.event.Kind.TheVariants.{Read, Write, Acquire, Release, AcquireShared, ReleaseShared, Begin, End, Fork, Join, Exit}
use Rattle.velo_events.specs.Event.{thread_of, is_by, is_begin, is_end, is_begin_by, is_end_by, lock_of, variable_of}
use Rattle.velo_events.specs.Heap.{depth_in, times}
use Rattle.velo_events.specs.Tally.{events_of}
use Rattle.velo_events.specs.WellFormed.{IsWellFormed}
use Rattle.velo_events.proofs.OnScans.{event_at, take-next, passes_at-event}
use Rattle.velo_events.proofs.OnWellFormed.{IsWellFormed-last}
use Rattle.velo_filter.specs.Left.{Omitted, is_among, label_begun, is_dissolved, is_left_out, rest_of}
use Rattle.velo_filter.specs.Stacks.{popped, stack}
use Rattle.velo_filter.proofs.OnRanks.{rank, events_staying, events_staying-stays, events_staying-goes}
use Rattle.velo_filter.proofs.OnStacks.{Stands, IsStack-stack, stack-begin, stack-end, stack-other}
use Rattle.velo_filter.proofs.OnLeft.{stays, sub, length-sub, rest_of-is, stack-rest, is_dissolved-is, is_left_out-begin, is_left_out-end, is_left_out-end_alone, is_left_out-other}
use Rattle.velo_filter.proofs.OnTurns.{height, IsWellFormed-rest}
use Rattle.velo_search.specs.Parts.{Part, LeftOut, Outside, Inside, does_stay, innermost, without_innermost, is_out, open_after, open_from, open_behind, part_of, rest_by, Stays, IsPart, AreParts, ArePartsOf}
use Rattle.velo_search.specs.Runs.{kinds_by, IsRunOf}
use Rattle.velo_search.specs.Summary.{is_inside}
use Rattle.velo_search.proofs.OnParts.{rest_by-nil, rest_by-stays, rest_by-goes}
use Rattle.velo_search.proofs.OnRuns.{kinds_by-append, kinds_by-own, kinds_by-other, IsRunOf-before, IsNext-last}

-- ---- the blocks that are open

pub open_from-push : (left : Omitted) (outs : List Bool) (ks : List Kind) (k : Kind) → open_from left outs (ks ++ k ∷ []) ≡ open_after left (open_from left outs ks) k
unfolding open_from
open_from-push left outs [] k = refl
open_from-push left outs (j ∷ ks) k = open_from-push left (open_after left outs j) ks k

pub open_behind-nil : (left : Omitted) → open_behind left [] ≡ []
unfolding open_from
open_behind-nil left = refl

module _ (left : Omitted) (log : List Event) where
  -- of a list of begins which are left out
  abbrev outs_of : List ℕ → List Bool
  outs_of bs = map (is_dissolved left log) bs

  outs-popped : (bs : List ℕ) → outs_of (popped bs) ≡ without_innermost (outs_of bs)
  outs-popped [] = refl
  outs-popped (b ∷ bs) = refl

  module _ (n : ℕ) (e : Event) (here : slice_get log n ≡ Some e) where
    begun-own : (t : ℕ) → thread_of e ≡ t → IsTrue (is_begin e.kind) → IsTrue (is_begin_by t e)
    begun-own t own h = and_from _ _ (eq-eqb (thread_of e) t own) h

    ended-own : (t : ℕ) → thread_of e ≡ t → IsTrue (is_end e.kind) → IsTrue (is_end_by t e)
    ended-own t own h = and_from _ _ (eq-eqb (thread_of e) t own) h

    -- its label
    dissolved-begin : (l : ℕ) (k : Kind) → e.kind ≡ k → is_among left.labels (label_begun k) ≡ left.labels l → is_dissolved left log n ≡ left.labels l
    dissolved-begin l k is label = is_dissolved-is left log n e here ∙ (ap (λ j. is_among left.labels (label_begun j)) is ∙ label)

    inner : (t : ℕ) (k : Kind) → e.kind ≡ k → IsFalse (is_begin k) → IsFalse (is_end k) → outs_of (stack log t (suc n)) ≡ outs_of (stack log t n)
    inner t k is h g = ap outs_of (stack-other log t n e here (and_right _ _ (ap is_begin is ∙ h)) (and_right _ _ (ap is_end is ∙ g)))

    -- the event of the thread
    outs-own : (t : ℕ) → thread_of e ≡ t → (k : Kind) → e.kind ≡ k → outs_of (stack log t (suc n)) ≡ open_after left (outs_of (stack log t n)) k
    outs-own t own (Begin l) is =
        ap outs_of (stack-begin log t n e here (begun-own t own (ap is_begin is)))
        ∙ ap (λ b. b ∷ outs_of (stack log t n)) (dissolved-begin l.0 (Begin l) is refl)
    outs-own t own End is =
        ap outs_of (stack-end log t n e here (ended-own t own (ap is_end is))) ∙ outs-popped (stack log t n)
    outs-own t own (Read x v) is = inner t (Read x v) is refl refl
    outs-own t own (Write x v) is = inner t (Write x v) is refl refl
    outs-own t own (Acquire m) is = inner t (Acquire m) is refl refl
    outs-own t own (Release m) is = inner t (Release m) is refl refl
    outs-own t own (AcquireShared m) is = inner t (AcquireShared m) is refl refl
    outs-own t own (ReleaseShared m) is = inner t (ReleaseShared m) is refl refl
    outs-own t own (Fork u) is = inner t (Fork u) is refl refl
    outs-own t own (Join u) is = inner t (Join u) is refl refl
    outs-own t own Exit is = inner t Exit is refl refl

    -- another one
    outs-other : (t : ℕ) → thread_of e ≢ t → outs_of (stack log t (suc n)) ≡ outs_of (stack log t n)
    outs-other t differ = ap outs_of (stack-other log t n e here (and_left _ _ (ne_eqb (thread_of e) t differ)) (and_left _ _ (ne_eqb (thread_of e) t differ)))

    -- whether it is left out
    end-out : IsTrue (is_end e.kind) → (bs : List ℕ) → stack log (thread_of e) n ≡ bs → is_left_out left log n ≡ innermost (outs_of bs)
    end-out h [] top = is_left_out-end_alone left log n e here h top
    end-out h (b ∷ bs) top = is_left_out-end left log n b e here h bs top

    other-out : (k : Kind) → e.kind ≡ k → IsFalse (is_begin k) → IsFalse (is_end k) → is_left_out left log n ≡ (is_among left.locks (lock_of k) || is_among left.variables (variable_of k))
    other-out k is h g =
        is_left_out-other left log n e here (ap is_begin is ∙ h) (ap is_end is ∙ g)
        ∙ ap (λ j. is_among left.locks (lock_of j) || is_among left.variables (variable_of j)) is

    out-is : (k : Kind) → e.kind ≡ k → is_left_out left log n ≡ is_out left (outs_of (stack log (thread_of e) n)) k
    out-is (Begin l) is = is_left_out-begin left log n e here (ap is_begin is) ∙ dissolved-begin l.0 (Begin l) is refl
    out-is End is = end-out (ap is_end is) (stack log (thread_of e) n) refl
    out-is (Read x v) is = other-out (Read x v) is refl refl
    out-is (Write x v) is = other-out (Write x v) is refl refl
    out-is (Acquire m) is = other-out (Acquire m) is refl refl
    out-is (Release m) is = other-out (Release m) is refl refl
    out-is (AcquireShared m) is = other-out (AcquireShared m) is refl refl
    out-is (ReleaseShared m) is = other-out (ReleaseShared m) is refl refl
    out-is (Fork u) is = other-out (Fork u) is refl refl
    out-is (Join u) is = other-out (Join u) is refl refl
    out-is Exit is = other-out Exit is refl refl

  -- the open blocks of a thread by its operations
  pub outs-stack : (t n : ℕ) → n ≤ length log → map (is_dissolved left log) (stack log t n) ≡ open_behind left (kinds_by t (take n log))
  unfolding stack
  outs-stack t zero l = sym (open_behind-nil left)
  outs-stack t (suc n) l =
      let w = event_at log n (omega arith) in
      let e = w.0 in
      let before = outs-stack t n (omega arith) in
      let next : take (suc n) log ≡ take n log ++ e ∷ [] = ap (λ k. take k log) (let one : suc n ≡ n + 1 = omega arith in one) ∙ take-next log n e w.1 in
      let kinds : kinds_by t (take (suc n) log) ≡ kinds_by t (take n log) ++ kinds_by t (e ∷ []) = ap (kinds_by t) next ∙ kinds_by-append t (take n log) (e ∷ []) in
      ⊎_elim
      (λ own. outs-own n e w.1 t own e.kind refl
      ∙ (ap (λ outs. open_after left outs e.kind) before
      ∙ (sym (open_from-push left [] (kinds_by t (take n log)) e.kind)
      ∙ ap (open_behind left) (sym (kinds ∙ ap (λ ks. kinds_by t (take n log) ++ ks) (kinds_by-own t e own))))))
      (λ differ. outs-other n e w.1 t differ
      ∙ (before ∙ ap (open_behind left) (sym (kinds ∙ (ap (λ ks. kinds_by t (take n log) ++ ks) (kinds_by-other t e differ) ∙ append-nil (kinds_by t (take n log)))))))
      (cases_eq (thread_of e) t)

  -- whether an event is left out, by the operations of its thread before it
  pub out-by_kinds : (n : ℕ) (e : Event) → slice_get log n ≡ Some e → n < length log → is_left_out left log n ≡ is_out left (open_behind left (kinds_by (thread_of e) (take n log))) e.kind
  out-by_kinds n e here within =
      out-is n e here e.kind refl ∙ ap (λ outs. is_out left outs e.kind) (outs-stack (thread_of e) n (omega (arith, within)))

-- ---- one part

stays-part : (left : Omitted) (outs : List Bool) (k : Kind) → does_stay (part_of left outs k) ≡ not (is_out left outs k)
stays-part left outs k = at (is_out left outs k) (list_any not (open_after left outs k))
  where
    at : (out inside : Bool) → does_stay (if out then LeftOut else (if inside then Inside else Outside)) ≡ not out
    at true inside = refl
    at false true = refl
    at false false = refl

inside-part : (left : Omitted) (outs : List Bool) (k : Kind) → part_of left outs k ≡ Inside → list_any not (open_after left outs k) ≡ true
inside-part left outs k is = at (is_out left outs k) (list_any not (open_after left outs k)) is
  where
    at : (out inside : Bool) → (if out then LeftOut else (if inside then Inside else Outside)) ≡ Inside → inside ≡ true
    at true inside h = cc
    at false true h = refl
    at false false h = cc

outside-part : (left : Omitted) (outs : List Bool) (k : Kind) → part_of left outs k ≡ Outside → list_any not (open_after left outs k) ≡ false
outside-part left outs k is = at (is_out left outs k) (list_any not (open_after left outs k)) is
  where
    at : (out inside : Bool) → (if out then LeftOut else (if inside then Inside else Outside)) ≡ Outside → inside ≡ false
    at true inside h = cc
    at false true h = cc
    at false false h = refl

-- ---- the events of a run

module _ (left : Omitted) (bounds : Bounds) (scripts : List (List Kind)) (parts : ℕ → ℕ → Part) (are : ArePartsOf left scripts parts) where
  -- the part of a next event
  pub part-next : (log : List Event) (e : Event) → IsRunOf bounds scripts (log ++ e ∷ []) → parts (thread_of e) (events_of log (thread_of e)) ≡ part_of left (open_behind left (kinds_by (thread_of e) log)) e.kind
  part-next log e run =
      let t = thread_of e in
      let next = IsNext-last bounds scripts log e run in
      are.each t (events_of log t) e.kind next.due
      ∙ ap (λ ks. part_of left (open_behind left ks) e.kind) (sym ((IsRunOf-before bounds scripts log (e ∷ []) run).own t))

  module _ (log : List Event) (run : IsRunOf bounds scripts log) where
    first-run : (n : ℕ) → IsRunOf bounds scripts (take n log)
    first-run n = IsRunOf-before bounds scripts (take n log) (drop n log) (subst (IsRunOf bounds scripts) (sym (take-append-drop n log)) run)

    rest-first : (n : ℕ) → n ≤ length log → rest_by parts (take n log) ≡ events_staying log (stays left log) n
    rest-first zero l = rest_by-nil parts
    rest-first (suc n) l =
        let w = event_at log n (omega arith) in
        let e = w.0 in
        let before = rest-first n (omega arith) in
        let next : take (suc n) log ≡ take n log ++ e ∷ [] = ap (λ k. take k log) (let one : suc n ≡ n + 1 = omega arith in one) ∙ take-next log n e w.1 in
        let part = part-next (take n log) e (subst (IsRunOf bounds scripts) next (first-run (suc n))) in
        let does : does_stay (parts (thread_of e) (events_of (take n log) (thread_of e))) ≡ stays left log n =
        ap does_stay part ∙ (stays-part left (open_behind left (kinds_by (thread_of e) (take n log))) e.kind ∙ ap not (sym (out-by_kinds left log n e w.1 (omega arith)))) in
        ap (rest_by parts) next
        ∙ ⊎_elim
        (λ h. rest_by-stays parts (take n log) e (does ∙ h) ∙ (ap (λ es. es ++ e ∷ []) before ∙ sym (events_staying-stays log (stays left log) n e w.1 h)))
        (λ h. rest_by-goes parts (take n log) e (does ∙ h) ∙ (before ∙ sym (events_staying-goes log (stays left log) n h)))
        (cases_Bool (stays left log n))

    -- what is left by the parts is what is left
    pub rest-same : rest_by parts log ≡ rest_of left log
    rest-same = ap (rest_by parts) (sym (take-length log)) ∙ (rest-first (length log) (omega arith) ∙ sym (rest_of-is left log))

    pub rest-well_formed : IsWellFormed bounds (rest_by parts log)
    rest-well_formed = subst (IsWellFormed bounds) (sym rest-same) (IsWellFormed-rest left bounds log run.well_formed)

    -- ---- how many blocks are open in what is left

    stays-dissolved : (t b : ℕ) → Stands (stack log t (length log)) b → stays left log b ≡ not (is_dissolved left log b)
    stays-dissolved t b s =
        let open_there = (IsStack-stack log t (length log) (omega arith)).opened s.0 b s.1 in
        let w = passes_at-event log (is_begin_by t) b open_there.begun in
        ap not (is_left_out-begin left log b w.0 w.1 (and_parts (is_by t w.0) (is_begin w.0.kind) w.2).1)

    any-kept : (bs : List ℕ) → ((b : ℕ) → Stands bs b → stays left log b ≡ not (is_dissolved left log b)) → list_any not (map (is_dissolved left log) bs) ≡ not (length (filter (stays left log) bs) == 0)
    any-kept [] each = refl
    any-kept (b ∷ bs) each = at (is_dissolved left log b) (stays left log b) (each b (0, refl)) (list_any not (map (is_dissolved left log) bs)) (filter (stays left log) bs) (any-kept bs (λ c s. each c (suc s.0, s.1)))
      where
        at : (d s : Bool) → s ≡ not d → (some : Bool) (xs : List ℕ) → some ≡ not (length xs == 0) → (not d || some) ≡ not (length (cond {A = List ℕ} s (b ∷ xs) xs) == 0)
        at true s is some xs rest = rest ∙ sym (ap (λ v. not (length (cond {A = List ℕ} v (b ∷ xs) xs) == 0)) is)
        at false s is some xs rest = sym (ap not (eqb-suc-zero (length xs))) ∙ sym (ap (λ v. not (length (cond {A = List ℕ} v (b ∷ xs) xs) == 0)) is)

    depth-left : (t : ℕ) → depth_in (rest_of left log) t ≡ length (filter (stays left log) (stack log t (length log)))
    depth-left t =
        let es = sub left log in
        let same = rest_of-is left log in
        let well : IsWellFormed bounds es = subst (IsWellFormed bounds) same (IsWellFormed-rest left bounds log run.well_formed) in
        let high = height bounds es well t (length es) (omega arith) in
        let whole : take (length es) es ≡ es = take-length es in
        let b = ap (λ xs. times (is_begin_by t) xs) whole in
        let f = ap (λ xs. times (is_end_by t) xs) whole in
        let depth : depth_in es t ≡ length (stack es t (length es)) = omega (arith, high, b, f) in
        ap (λ xs. depth_in xs t) same
        ∙ (depth
        ∙ (ap (λ n. length (stack es t n)) (length-sub left log)
        ∙ (ap length (stack-rest left log t (length log) (omega arith)) ∙ length-map (filter (stays left log) (stack log t (length log))) (rank (stays left log)))))

    pub any-depth : (t : ℕ) → list_any not (open_behind left (kinds_by t log)) ≡ not (depth_in (rest_of left log) t == 0)
    any-depth t =
        ap (λ es. list_any not (open_behind left (kinds_by t es))) (sym (take-length log))
        ∙ (ap (list_any not) (sym (outs-stack left log t (length log) (omega arith)))
        ∙ (any-kept (stack log t (length log)) (stays-dissolved t) ∙ ap (λ n. not (n == 0)) (sym (depth-left t))))

  -- ---- each event has its part

  inside-next : (log : List Event) (e : Event) → IsRunOf bounds scripts (log ++ e ∷ []) → rest_by parts (log ++ e ∷ []) ≡ rest_by parts log ++ e ∷ [] →
      list_any not (open_after left (open_behind left (kinds_by (thread_of e) log)) e.kind) ≡ is_inside (rest_by parts log) e
  inside-next log e run longer =
      let t = thread_of e in
      ap (list_any not) (sym (open_from-push left [] (kinds_by t log) e.kind) ∙ ap (open_behind left) (sym (kinds_by-append t log (e ∷ []) ∙ ap (λ ks. kinds_by t log ++ ks) (kinds_by-own t e refl))))
      ∙ (any-depth (log ++ e ∷ []) run t
      ∙ ap (λ es. not (depth_in es t == 0)) (sym (rest-same (log ++ e ∷ []) run) ∙ longer))

  stays-next : (log : List Event) (e : Event) → IsRunOf bounds scripts (log ++ e ∷ []) → (inside : Bool) → IsTrue (does_stay (parts (thread_of e) (events_of log (thread_of e)))) →
      list_any not (open_after left (open_behind left (kinds_by (thread_of e) log)) e.kind) ≡ inside → Stays (rest_by parts) bounds log e inside
  stays-next log e run inside stay is =
      let longer = rest_by-stays parts log e stay in
      record {
        longer = longer;
        well_formed = rest-well_formed log (IsRunOf-before bounds scripts log (e ∷ []) run);
        follows = IsWellFormed-last bounds (rest_by parts log) e (subst (IsWellFormed bounds) longer (rest-well_formed (log ++ e ∷ []) run));
        opens = sym is ∙ inside-next log e run longer;
      }

  part-is : (log : List Event) (e : Event) → IsRunOf bounds scripts (log ++ e ∷ []) → (p : Part) → parts (thread_of e) (events_of log (thread_of e)) ≡ p → IsPart (rest_by parts) bounds log e p
  part-is log e run LeftOut is = rest_by-goes parts log e (ap does_stay is)
  part-is log e run Outside is = stays-next log e run false (ap does_stay is) (outside-part left (open_behind left (kinds_by (thread_of e) log)) e.kind (sym (part-next log e run) ∙ is))
  part-is log e run Inside is = stays-next log e run true (ap does_stay is) (inside-part left (open_behind left (kinds_by (thread_of e) log)) e.kind (sym (part-next log e run) ∙ is))

  pub parts-of_runs : AreParts bounds scripts parts
  parts-of_runs = record {
    well_formed = λ log run. rest-well_formed log run;
    each = λ log e run. part-is log e run (parts (thread_of e) (events_of log (thread_of e))) refl;
  }
