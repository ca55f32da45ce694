-- Where a transaction ends in a serial reordering.
use Rattle.std.proofs.Common.{◌≡◌, ◌≢◌, ℕ, zero, suc, ◌+◌, ◌-◌, ◌<◌, ◌≤◌, Bool, true, false, cond, List, [], ◌∷◌, ◌++◌, length, take, refl, sym, ap, ◌∙◌, subst, arith, ⊎_elim, inl, inr, append_assoc}
use Rattle.std.specs.Prelude.{◌==◌, ◌⊎◌, nat_lt, slice_get, count_by, filter, slice_index, IsTrue}
use Rattle.std.proofs.lemmas.Bool.{cases_lt, cases_order, eq-eqb, ne_eqb, le-ltb, both_ways, eqb-true}
use Rattle.std.proofs.lemmas.List.{append-nil, take_more}
use Rattle.std.proofs.lemmas.List.Elements.{filter_more}
use Rattle.std.proofs.lemmas.List.Sums.{count_by_more_yes}
use Rattle.std.proofs.lemmas.Option.{slice_get-get_or}
use Rattle.velo_events.specs.declared.event.Event.{Event}
use Rattle.velo_events.specs.Event.{is_by}
use Rattle.velo_events.specs.Block.{owner, passes_at}
use Rattle.velo_events.specs.Reordering.{IsReordering, IsSerial}
use Rattle.velo_events.specs.Scan.{IsScanned}
use Rattle.velo_events.proofs.OnBlocks.{owner-le, owner-first}
use Rattle.velo_events.proofs.OnHappening.{ConflictsInOrder-same_thread}
use Rattle.velo_events.proofs.OnOwners.{is_in_block-open}
use Rattle.velo_events.proofs.OnReorderings.{IsReordering-place, IsReordering-pair}
use Rattle.velo_events.proofs.OnScans.{take-take_le, passes_at-is, IsOpenAt-to, IsScanned-other_thread, owner-scanned_outside, owner-scanned_inside, owner-owner, owner-thread}
use Rattle.velo_traces.proofs.Past.{past}
use Rattle.velo_certify.specs.Owners.{event_at}
use Rattle.velo_certify.proofs.OnOrders.{count_take}
use Rattle.velo_certify.proofs.OnSerial.{positions_below, below-own, below-first, below-last, below-stays}
use Rattle.velo_report.specs.Certificate.{is_first}
use Rattle.velo_report.specs.Runs.{IsStart, IsOneTransaction, IsDepthAfter, GoesOn, AreInside}

-- ---- the places of a reordering

at_most_one : (b : Bool) → cond {A = ℕ} b 1 0 ≤ 1
at_most_one true = omega arith
at_most_one false = omega arith

module _ (log : List Event) (order : List ℕ) (reorders : IsReordering log order) where
  seen-more : (k : ℕ) → k < length order → count_by (λ n. n == slice_index order k) (take (k + 1) order) ≡ count_by (λ n. n == slice_index order k) (take k order) + 1
  seen-more k within = count_by_more_yes (λ n. n == slice_index order k) order k 0 within (eq-eqb (slice_index order k) (slice_index order k) refl)

  -- all that stands there is a position
  pub AreInside-reordering : AreInside log order
  AreInside-reordering = record {
    each = λ k within. ⊎_elim (λ l. l)
        (λ past_end. absurd (
        let none = reorders.each_once (slice_index order k) ∙ ap (λ b. cond {A = ℕ} b 1 0) (le-ltb (slice_index order k) (length log) past_end) in
        let most = count_take (λ n. n == slice_index order k) (k + 1) order in
        omega (arith, none, most, seen-more k within)))
        (cases_lt (slice_index order k) (length log));
  }

  -- each position stands there once
  pub places-differ : (k l : ℕ) → k < l → l < length order → slice_index order k ≡ slice_index order l → ⊥
  places-differ k l before within same =
      let here = slice_index order l in
      let once = reorders.each_once here in
      let most = at_most_one (nat_lt here (length log)) in
      let last = seen-more l within in
      let upto = count_take (λ n. n == here) (l + 1) order in
      let first = subst (λ i. count_by (λ n. n == i) (take (k + 1) order) ≡ count_by (λ n. n == i) (take k order) + 1) same (seen-more k (omega arith)) in
      let between = count_take (λ n. n == here) (k + 1) (take l order) in
      let prefix = ap (count_by (λ n. n == here)) (take-take_le (k + 1) l order (omega arith)) in
      omega (arith, once, most, last, upto, first, between, prefix)

-- ---- the events of one thread

module _ (log : List Event) where
  abbrev pub thread_at : ℕ → ℕ
  thread_at i = (event_at log i).thread.0

  by_thread : (t i : ℕ) → i < length log → thread_at i ≡ t → IsTrue (passes_at log (is_by t) i)
  by_thread t i within same = passes_at-is log (is_by t) i (event_at log i) (slice_get-get_or log i past within) ∙ eq-eqb (thread_at i) t same

  -- the positions of a transaction are of one thread
  pub thread-own : (a i : ℕ) → a < length log → i < length log → owner log i ≡ a → thread_at i ≡ thread_at a
  thread-own a i first within own =
      sym (owner-thread log i (event_at log i) (event_at log a) (slice_get-get_or log i past within) (ap (slice_get log) own ∙ slice_get-get_or log a past first))

  -- before the first position of a transaction no block of its thread is open
  IsScanned-first : (a : ℕ) → a < length log → owner log a ≡ a → IsScanned log (thread_at a) a 0 a
  IsScanned-first a within first = λ b before opened.
      let inside = is_in_block-open log (thread_at a) b a a (IsOpenAt-to log (thread_at a) b a opened) (omega (arith, before)) (omega arith) (by_thread (thread_at a) a within refl) in
      both_ways _ (owner-first log a b (omega (arith, before, first))) inside

  -- what is known of a thread's blocks stays until its next event
  IsScanned-stays : (t n k depth start : ℕ) → n + k ≤ length log → ((i : ℕ) → n ≤ i → i < n + k → thread_at i ≢ t) → IsScanned log t n depth start → IsScanned log t (n + k) depth start
  IsScanned-stays t n zero depth start within none s = subst (λ m. IsScanned log t m depth start) (let same : n ≡ n + 0 = omega arith in same) s
  IsScanned-stays t n (suc k) depth start within none s =
      subst (λ m. IsScanned log t m depth start) (let same : n + k + 1 ≡ n + suc k = omega arith in same)
      (IsScanned-other_thread log t (n + k) past (omega (arith, within)) depth start (ne_eqb (thread_at (n + k)) t (none (n + k) (omega arith) (omega arith)))
      (IsScanned-stays t n k depth start (omega (arith, within)) (λ i l u. none i l (omega (arith, u))) s))

-- ---- one place after another

-- from one place to before another stand positions of the transaction, all up to the last of them, before whose next event
-- so many blocks are open
pub record RunsSoFar (log : List Event) (order : List ℕ) (from end depth : ℕ) : Type 0 where
  pub last : ℕ
  pub is_last : last + 1 ≡ end
  pub after : from ≤ last
  pub within : end ≤ length order
  pub own : (k : ℕ) → from ≤ k → k < end → owner log (slice_index order k) ≡ slice_index order from
  pub items : take end order ≡ take from order ++ positions_below log (slice_index order from) (slice_index order last + 1)
  pub firsts : filter (is_first log) (take end order) ≡ filter (is_first log) (take from order) ++ slice_index order from ∷ []
  pub small : depth ≤ slice_index order last + 1
  pub scanned : IsScanned log (thread_at log (slice_index order from)) (slice_index order last + 1) depth (slice_index order from)

module _ (log : List Event) (order : List ℕ) (from : ℕ) (reorders : IsReordering log order) (serial : IsSerial log order) (start : IsStart log order from) where
  abbrev a : ℕ
  a = slice_index order from

  abbrev t : ℕ
  t = thread_at log a

  inside : (k : ℕ) → k < length order → slice_index order k < length log
  inside k l = (AreInside-reordering log order reorders).each k l

  pub RunsSoFar-start : (depth : ℕ) → depth ≤ a + 1 → IsDepthAfter log a 0 depth → RunsSoFar log order from (from + 1) depth
  RunsSoFar-start depth small after = record {
    last = from;
    is_last = refl;
    after = omega arith;
    within = omega (arith, start.within);
    own = λ k l u. subst (λ m. owner log (slice_index order m) ≡ a) (let same : from ≡ k = omega (arith, l, u) in same) start.first;
    items = take_more order from 0 start.within ∙ ap (λ xs. take from order ++ xs) (sym (below-own log a a start.first ∙ ap (λ xs. xs ++ a ∷ []) (below-first log a)));
    firsts = filter_more (is_first log) order from 0 start.within ∙ ap (λ b. filter (is_first log) (take from order) ++ cond b (a ∷ []) []) (eq-eqb (owner log a) a start.first);
    small = small;
    scanned = after.each a (λ _. refl) (IsScanned-first log a (inside from start.within) start.first);
  }

  module _ (end depth : ℕ) (w : RunsSoFar log order from end depth) where
    abbrev i : ℕ
    i = slice_index order w.last

    abbrev j : ℕ
    j = slice_index order end

    last_inside : w.last < length order
    last_inside = omega (arith, w.is_last, w.within)

    last_own : owner log i ≡ a
    last_own = w.own w.last w.after (omega (arith, w.is_last))

    last_thread : thread_at log i ≡ t
    last_thread = thread-own log a i (inside from start.within) (inside w.last last_inside) last_own

    -- two positions of the thread stand in their order
    in_order : (x y k l : ℕ) → x < y → thread_at log x ≡ t → thread_at log y ≡ t → k < length order → l < length order → slice_index order k ≡ x → slice_index order l ≡ y → k < l
    in_order x y k l less own_x own_y in_k in_l at_k at_l =
        IsReordering-pair log order reorders x y k l
        (ConflictsInOrder-same_thread log t x y less (by_thread log t x (subst (λ n. n < length log) at_k (inside k in_k)) own_x) (by_thread log t y (subst (λ n. n < length log) at_l (inside l in_l)) own_y))
        in_k in_l at_k at_l

    module _ (here : end < length order) (same : thread_at log j ≡ t) where
      rises : i < j
      rises = ⊎_elim (λ e. absurd (places-differ log order reorders w.last end (omega (arith, w.is_last)) here e))
          (⊎_elim (λ l. l) (λ g. absurd (let wrong = in_order j i end w.last g same last_thread here last_inside refl refl in omega (arith, wrong, w.is_last))))
          (cases_order i j)

      -- no event of the thread comes between them
      none_between : (x : ℕ) → i + 1 ≤ x → x < i + 1 + (j - (i + 1)) → thread_at log x ≢ t
      none_between x l u own =
          let under : x < j = omega (arith, l, u, rises) in
          let within : x < length log = let h = inside end here in omega (arith, under, h) in
          let k = IsReordering-place log order reorders x within in
          let after = in_order i x w.last k.0 (omega (arith, l)) last_thread own last_inside k.1 refl k.2 in
          let before = in_order x j k.0 end under own same k.1 here k.2 refl in
          omega (arith, after, before, w.is_last)

      pub scanned_next : IsScanned log t j depth a
      scanned_next =
          subst (λ n. IsScanned log t n depth a) (let at : i + 1 + (j - (i + 1)) ≡ j = omega (arith, rises) in at)
          (IsScanned-stays log t (i + 1) (j - (i + 1)) depth a (let h = inside end here in omega (arith, rises, h)) none_between w.scanned)

      pub small_next : depth ≤ j
      small_next = omega (arith, w.small, rises)

      -- the next position is of the transaction too, where a block is open
      own_next : 0 < depth → owner log j ≡ a
      own_next some = owner-scanned_inside log j depth a past (inside end here) some (subst (λ u. IsScanned log u j depth a) (sym same) scanned_next)

      alone_next : depth ≡ 0 → owner log j ≡ j
      alone_next none = owner-scanned_outside log j depth a past (inside end here) none (subst (λ u. IsScanned log u j depth a) (sym same) scanned_next)

    pub RunsSoFar-next : GoesOn log order from end depth → (after : ℕ) → after ≤ j + 1 → IsDepthAfter log j depth after → RunsSoFar log order from (end + 1) after
    RunsSoFar-next g after small is =
        let own = own_next g.within g.thread g.open_block in
        let up = rises g.within g.thread in
        let differ : owner log j ≢ j = λ e. places-differ log order reorders from end (omega (arith, w.after, w.is_last)) g.within (sym own ∙ e) in
        record {
          last = end;
          is_last = refl;
          after = omega (arith, w.after, w.is_last);
          within = omega (arith, g.within);
          own = λ k l u. ⊎_elim (λ before. w.own k l before) (λ at. subst (λ m. owner log (slice_index order m) ≡ a) (let at_end : end ≡ k = omega (arith, at, u) in at_end) own) (cases_lt k end);
          items = take_more order end 0 g.within ∙ (ap (λ xs. xs ++ j ∷ []) w.items ∙ (append_assoc (take from order) (positions_below log a (i + 1)) (j ∷ []) ∙ ap (λ xs. take from order ++ xs) (sym (below-own log a j own ∙ ap (λ xs. xs ++ j ∷ []) (between g.within g.thread up)))));
          firsts = filter_more (is_first log) order end 0 g.within ∙ (ap (λ b. filter (is_first log) (take end order) ++ cond b (j ∷ []) []) (ne_eqb (owner log j) j differ) ∙ (append-nil (filter (is_first log) (take end order)) ∙ w.firsts));
          small = small;
          scanned = subst (λ u. IsScanned log u (j + 1) after a) g.thread (is.each a (λ none. absurd (omega (arith, none, g.open_block))) (subst (λ u. IsScanned log u j depth a) (sym g.thread) (scanned_next g.within g.thread)));
        }
      where
        between : (here : end < length order) (same : thread_at log j ≡ t) → i < j → positions_below log a j ≡ positions_below log a (i + 1)
        between here same up =
            ap (positions_below log a) (let at : j ≡ i + 1 + (j - (i + 1)) = omega (arith, up) in at)
            ∙ below-stays log a (i + 1) (j - (i + 1)) (λ x l u own. none_between here same x l u (thread-own log a x (inside from start.within) (let h = inside end here in omega (arith, u, up, h)) own))

    pub IsOneTransaction-end : ¬ GoesOn log order from end depth → IsOneTransaction log order from end
    IsOneTransaction-end stops = record {
      after = omega (arith, w.after, w.is_last);
      within = w.within;
      own = w.own;
      ends = ends;
      items = w.items ∙ ap (λ xs. take from order ++ xs) (below-last log a (i + 1) (let h = inside w.last last_inside in omega (arith, h)) upto);
      firsts = w.firsts;
    }
      where
        ends : end < length order → owner log j ≢ a
        ends here own =
            let same = thread-own log a j (inside from start.within) (inside end here) own in
            ⊎_elim (λ none. places-differ log order reorders from end (omega (arith, w.after, w.is_last)) here (sym own ∙ alone_next here same (omega (arith, none))))
            (λ some. stops (record { open_block = some; within = here; thread = same })) (cases_lt depth 1)

        upto : (x : ℕ) → x < length log → owner log x ≡ a → x < i + 1
        upto x within own = ⊎_elim (λ l. l)
            (λ g. absurd (
            let k = IsReordering-place log order reorders x within in
            let after = in_order i x w.last k.0 (omega (arith, g)) last_thread (thread-own log a x (inside from start.within) within own) last_inside k.1 refl k.2 in
            ⊎_elim (λ e. ends (omega (arith, e, k.1)) (ap (λ m. owner log (slice_index order m)) e ∙ (ap (owner log) k.2 ∙ own)))
            (λ more. ends (omega (arith, more, k.1)) (eqb-true (owner log j) a
            (serial a w.last end k.0 (omega (arith, w.is_last)) more k.1 (eq-eqb (owner log i) a last_own) (eq-eqb _ a (ap (owner log) k.2 ∙ own)))))
            (let either : (end ≡ k.0) ⊎ (end < k.0) = same_or_more end k.0 (omega (arith, after, w.is_last)) in either)))
            (cases_lt x (i + 1))
          where
            same_or_more : (m n : ℕ) → m ≤ n → (m ≡ n) ⊎ (m < n)
            same_or_more m n h = ⊎_elim (λ l. inr l) (λ g. inl (omega (arith, g, h))) (cases_lt m n)

-- ---- where the next one begins

module _ (log : List Event) (order : List ℕ) (reorders : IsReordering log order) where
  -- the first position of a transaction stands before its others
  first_before : (l : ℕ) → l < length order → owner log (slice_index order l) < slice_index order l → (k : ℕ) × (k < l) × (slice_index order k ≡ owner log (slice_index order l))
  first_before l within less =
      let j = slice_index order l in
      let a = owner log j in
      let here : j < length log = (AreInside-reordering log order reorders).each l within in
      let there : a < length log = omega (arith, less, here) in
      let k = IsReordering-place log order reorders a there in
      let same = thread-own log a j there here refl in
      let before = IsReordering-pair log order reorders a j k.0 l
      (ConflictsInOrder-same_thread log (thread_at log a) a j less (by_thread log (thread_at log a) a there refl) (by_thread log (thread_at log a) j here same)) k.1 within k.2 refl in
      (k.0, before, k.2)

  starts : (l : ℕ) → l < length order → ((k : ℕ) → k < l → slice_index order k ≡ owner log (slice_index order l) → ⊥) → IsStart log order l
  starts l within none = record {
    within = within;
    first = ⊎_elim (λ less. absurd (let k = first_before l within less in none k.0 k.1 k.2)) (λ g. let most = owner-le log (slice_index order l) in omega (arith, g, most))
        (cases_lt (owner log (slice_index order l)) (slice_index order l));
  }

  pub IsStart-first : 0 < length order → IsStart log order 0
  IsStart-first some = starts 0 some (λ k l e. omega (arith, l))

  -- behind a transaction another one begins
  pub IsStart-next : IsSerial log order → (from end : ℕ) → from < length order → IsOneTransaction log order from end → end < length order → IsStart log order end
  IsStart-next serial from end here run within = starts end within (λ k l e.
      let j = slice_index order end in
      let there : j < length log = (AreInside-reordering log order reorders).each end within in
      let own_k : owner log (slice_index order k) ≡ owner log j = ap (owner log) e ∙ owner-owner log j there in
      ⊎_elim
      (λ before. run.ends within (sym (eqb-true (owner log (slice_index order from)) (owner log j)
      (serial (owner log j) k from end before run.after within (eq-eqb _ (owner log j) own_k) (eq-eqb (owner log j) (owner log j) refl))) ∙ run.own from (omega arith) run.after))
      (λ inside. run.ends within (sym own_k ∙ run.own k inside l))
      (cases_lt k from))
