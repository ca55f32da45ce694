-- The events of each thread in their order, and how far they are listed.
use Rattle.std.proofs.Common.{◌≡◌, ◌≢◌, ℕ, ◌+◌, ◌-◌, ◌<◌, ◌≤◌, Bool, true, false, List, length, set, replicate, refl, sym, ap, ◌∙◌, subst, arith, ⊎_elim}
use Rattle.std.specs.Prelude.{slice_index, slice_index_or, IsTrue, IsFalse}
use Rattle.std.proofs.lemmas.Bool.{cases_lt, cases_eq, cases_Bool, eq-eqb, ltb-true, ltb-false, both_ways, false≢true}
use Rattle.std.proofs.lemmas.List.{length-set, get_or-set_same, get_or-set_other, get_or-replicate}
use Rattle.std.proofs.lemmas.Option.{slice_get-get_or}
use Rattle.velo_events.specs.declared.event.Event.{Event}
use Rattle.velo_events.specs.Event.{is_by}
use Rattle.velo_events.specs.Block.{owner, passes_at, IsTransaction}
use Rattle.velo_events.specs.Certificate.{positions_of}
use Rattle.velo_events.specs.Graph.{conflict_at}
use Rattle.velo_events.proofs.OnBlocks.{owner-le}
use Rattle.velo_events.proofs.OnHappening.{ConflictsInOrder-same_thread}
use Rattle.velo_events.proofs.OnOwners.{owner-between}
use Rattle.velo_events.proofs.OnScans.{passes_at-is, owner-owner, owner-thread}
use Rattle.velo_traces.proofs.Past.{past}
use Rattle.velo_certify.specs.declared.serial.Next.{Next}
use Rattle.velo_certify.specs.declared.serial.Next.TheVariants.{Ready, Stuck, Done}
use Rattle.velo_certify.specs.Owners.{event_at}
use Rattle.velo_certify.specs.Serial.{has, AreClosed, IsFree, IsCandidate, IsNext, is_before}
use Rattle.velo_certify.specs.Threads.{thread_at, IsFirstFrom, AreFirstFrom, AreFollowing, NamesFronts, AreFronts, IsBehind, IsNextSoFar, IsWithFront}
use Rattle.velo_certify.proofs.OnSerial.{has-set, positions_below, below-stays, below-last}

-- ---- positions of one thread

pub own-thread : (trace : List Event) (t i : ℕ) → i < length trace → thread_at trace i ≡ t → IsTrue (passes_at trace (is_by t) i)
own-thread trace t i within own = passes_at-is trace (is_by t) i (event_at trace i) (slice_get-get_or trace i past within) ∙ eq-eqb (thread_at trace i) t own

pub one-thread : (trace : List Event) (i : ℕ) → i < length trace → thread_at trace (owner trace i) ≡ thread_at trace i
one-thread trace i within =
    owner-thread trace i (event_at trace i) (event_at trace (owner trace i)) (slice_get-get_or trace i past within)
    (slice_get-get_or trace (owner trace i) past (let most = owner-le trace i in omega (arith, most, within)))

pub own-conflict : (trace : List Event) (i j : ℕ) → i < j → j < length trace → thread_at trace i ≡ thread_at trace j → IsTrue (conflict_at trace i j)
own-conflict trace i j before within same =
    (ConflictsInOrder-same_thread trace (thread_at trace j) i j before (own-thread trace (thread_at trace j) i (omega (arith, before, within)) same) (own-thread trace (thread_at trace j) j within refl)).1

-- ---- the places, found from the end

module _ (trace : List Event) (n : ℕ) (fronts : List ℕ) (within : n < length trace) (names : NamesFronts trace fronts) (firsts : AreFirstFrom trace (n + 1) fronts) where
  pub AreFirstFrom-next : AreFirstFrom trace n (set fronts (thread_at trace n) n)
  AreFirstFrom-next = record {
    each = λ t l. ⊎_elim
        (λ same. subst (IsFirstFrom trace t n) (sym (ap (λ u. slice_index (set fronts (thread_at trace n) n) u) same ∙ get_or-set_same fronts (thread_at trace n) n 0 (names.each n within))) (record {
          from_n = omega arith;
          at_most = omega (arith, within);
          own = λ _. sym same;
          none = λ k l h. absurd (omega (arith, l, h));
        }))
        (λ other.
        let w = firsts.each t (let c = length-set fronts (thread_at trace n) n in omega (arith, l, c)) in
        subst (IsFirstFrom trace t n) (sym (get_or-set_other fronts (thread_at trace n) t n 0 other)) (record {
          from_n = let f = w.from_n in omega (arith, f);
          at_most = w.at_most;
          own = w.own;
          none = λ k from upto own. ⊎_elim (λ later. w.none k (omega (arith, later)) upto own) (λ h. other (sym own ∙ ap (thread_at trace) (let at_n : k ≡ n = omega (arith, h, from) in at_n))) (cases_lt n k);
        }))
        (cases_eq t (thread_at trace n));
  }

  pub AreFollowing-next : (following : List ℕ) → AreFollowing trace (n + 1) following → AreFollowing trace n (set following n (slice_index fronts (thread_at trace n)))
  AreFollowing-next following w = record {
    count = length-set following n (slice_index fronts (thread_at trace n)) ∙ w.count;
    each = λ i from inside. ⊎_elim
        (λ same.
        subst (λ k. IsFirstFrom trace (thread_at trace k) (k + 1) (slice_index (set following n (slice_index fronts (thread_at trace n))) k)) (sym same)
        (subst (IsFirstFrom trace (thread_at trace n) (n + 1)) (sym (get_or-set_same following n (slice_index fronts (thread_at trace n)) 0 (let c = w.count in omega (arith, within, c)))) (firsts.each (thread_at trace n) (names.each n within))))
        (λ other. subst (IsFirstFrom trace (thread_at trace i) (i + 1)) (sym (get_or-set_other following n i (slice_index fronts (thread_at trace n)) 0 other)) (w.each i (omega (arith, from, other)) inside))
        (cases_eq i n);
  }

-- ---- a transaction, followed along its thread

-- at a position that was come to by steps to the next one of the thread
pub record Follows (trace : List Event) (a at_hand : ℕ) : Type 0 where
  pub from : a ≤ at_hand
  pub upto : at_hand ≤ length trace
  pub own : at_hand < length trace → thread_at trace at_hand ≡ thread_at trace a
  pub mine : (i : ℕ) → a ≤ i → i < at_hand → i < length trace → thread_at trace i ≡ thread_at trace a → owner trace i ≡ a

pub Follows-start : (trace : List Event) (a : ℕ) → a < length trace → Follows trace a a
Follows-start trace a within = record {
  from = omega arith;
  upto = omega (arith, within);
  own = λ _. refl;
  mine = λ i l h. absurd (omega (arith, l, h));
}

module _ (trace : List Event) (a n k : ℕ) (transaction : IsTransaction trace a) (w : Follows trace a n) where
  module _ (within : n < length trace) (of_a : owner trace n ≡ a) (next : IsFirstFrom trace (thread_at trace n) (n + 1) k) where
    pub Follows-next : Follows trace a k
    Follows-next = record {
      from = let f = w.from in let g = next.from_n in omega (arith, f, g);
      upto = next.at_most;
      own = λ l. next.own l ∙ w.own within;
      mine = λ i from upto inside own. ⊎_elim (λ before. w.mine i from before inside own)
          (λ h. ⊎_elim (λ later. absurd (next.none i (omega (arith, later)) upto (own ∙ sym (w.own within)))) (λ g. ap (owner trace) (let at_n : i ≡ n = omega (arith, h, g) in at_n) ∙ of_a) (cases_lt n i))
          (cases_lt i n);
    }

    pub below-next : positions_below trace a k ≡ positions_below trace a (n + 1)
    below-next =
        ap (positions_below trace a) (let more : k ≡ n + 1 + (k - (n + 1)) = let f = next.from_n in omega (arith, f) in more)
        ∙ below-stays trace a (n + 1) (k - (n + 1)) (λ i l h own.
        let before : i < k = let f = next.from_n in omega (arith, h, f) in
        let inside : i < length trace = let most = next.at_most in omega (arith, before, most) in
        next.none i l before (sym (one-thread trace i inside) ∙ (ap (thread_at trace) own ∙ sym (w.own within))))

  -- where the transaction ends
  module _ (end : n < length trace → owner trace n ≢ a) where
    pub Follows-end : IsBehind trace a n
    Follows-end = record {
      after = ⊎_elim (λ l. l) (λ h. absurd (let same : n ≡ a = let f = w.from in omega (arith, h, f) in let inside = transaction.within in end (omega (arith, same, inside)) (ap (owner trace) same ∙ transaction.first))) (cases_lt a n);
      own = w.own;
      other = end;
      mine = w.mine;
    }

    pub below-end : positions_below trace a n ≡ positions_of trace a
    below-end = below-last trace a n w.upto (λ i inside own. ⊎_elim (λ l. l)
        (λ h.
        let here : n < length trace = omega (arith, h, inside) in
        let same : thread_at trace i ≡ thread_at trace a = sym (one-thread trace i inside) ∙ ap (thread_at trace) own in
        let f = w.from in
        let further : a < i = ⊎_elim (λ l. l) (λ g. absurd (let at_n : n ≡ a = omega (arith, g, h, f) in end here (ap (owner trace) at_n ∙ transaction.first))) (cases_lt a i) in
        absurd (end here (owner-between trace (thread_at trace a) a n i further f h (own-thread trace (thread_at trace a) n here (w.own here)) (own-thread trace (thread_at trace a) i inside same) (transaction.first ∙ sym own) ∙ own)))
        (cases_lt i n))

-- ---- the fronts

pub AreFronts-start : (trace : List Event) (listed : List Bool) (fronts : List ℕ) → listed ≡ replicate (length trace) false → NamesFronts trace fronts → AreFirstFrom trace 0 fronts → AreFronts trace listed fronts
AreFronts-start trace listed fronts is names firsts = record {
  names = names;
  passed = λ i within before. absurd ((firsts.each (thread_at trace i) (names.each i within)).none i (omega arith) before refl);
  own = λ t l. (firsts.each t l).own;
  left = λ t l within. ap (λ xs. slice_index_or xs (owner trace (slice_index fronts t)) false) is
      ∙ get_or-replicate (length trace) (owner trace (slice_index fronts t)) false false (let most = owner-le trace (slice_index fronts t) in omega (arith, most, within));
}

module _ (trace : List Event) (listed : List Bool) (fronts : List ℕ) (w : AreFronts trace listed fronts) where
  -- a front is a transaction that is not listed
  pub front-candidate : (t : ℕ) → t < length fronts → slice_index fronts t < length trace → IsCandidate trace listed (slice_index fronts t)
  front-candidate t l within = record {
    within = within;
    first = first;
    not_listed = subst (λ a. IsFalse (has listed a)) first (w.left t l within);
  }
    where
      first : owner trace (slice_index fronts t) ≡ slice_index fronts t
      first = ⊎_elim
          (λ before.
          let f = slice_index fronts t in
          let o = owner trace f in
          let of_t : thread_at trace o ≡ t = one-thread trace f within ∙ w.own t l within in
          let known = w.passed o (omega (arith, before, within)) (subst (λ u. o < slice_index fronts u) (sym of_t) before) in
          absurd (both_ways _ (w.left t l within) (subst (λ a. IsTrue (has listed a)) (owner-owner trace f within) known)))
          (λ h. let most = owner-le trace (slice_index fronts t) in omega (arith, h, most))
          (cases_lt (owner trace (slice_index fronts t)) (slice_index fronts t))

  candidate-from_front : (b : ℕ) → IsCandidate trace listed b → slice_index fronts (thread_at trace b) ≤ b
  candidate-from_front b c = ⊎_elim (λ before. absurd (both_ways _ c.not_listed (subst (λ a. IsTrue (has listed a)) c.first (w.passed b c.within before)))) (λ h. h) (cases_lt b (slice_index fronts (thread_at trace b)))

  -- what is free is the first of its thread
  free-front : (b : ℕ) → IsCandidate trace listed b → IsFree trace listed b → slice_index fronts (thread_at trace b) ≡ b
  free-front b c free = ⊎_elim
      (λ before.
      let f = slice_index fronts (thread_at trace b) in
      let t = thread_at trace b in
      let inside : f < length trace = let l = c.within in omega (arith, before, l) in
      let front = front-candidate t (w.names.each b c.within) inside in
      let known = (free.each b).each c.first f before (own-conflict trace f b before c.within (w.own t (w.names.each b c.within) inside)) (λ same. let is = front.first in omega (arith, before, same, is)) in
      absurd (both_ways _ front.not_listed (subst (λ a. IsTrue (has listed a)) front.first known)))
      (λ h. let most = candidate-from_front b c in omega (arith, h, most))
      (cases_lt (slice_index fronts (thread_at trace b)) b)

  -- so all fronts tell what is listed next
  pub IsNext-by_fronts : (next : Next) → IsNextSoFar trace listed fronts (length fronts) next → IsNext trace listed next
  IsNext-by_fronts (Ready a) h = (
    h.0,
    h.1,
    λ b c free.
        let is = free-front b c free in
        let l = h.2 (thread_at trace b) (w.names.each b c.within) (let inside = c.within in omega (arith, is, inside)) (subst (IsFree trace listed) (sym is) free) in
        omega (arith, l, is),
  )
  IsNext-by_fronts Stuck h = (
    h.0,
    λ b c free.
        let is = free-front b c free in
        h.1 (thread_at trace b) (w.names.each b c.within) (let inside = c.within in omega (arith, is, inside)) (subst (IsFree trace listed) (sym is) free),
  )
  IsNext-by_fronts Done h = λ b c. h (thread_at trace b) (w.names.each b c.within) (let most = candidate-from_front b c in let inside = c.within in omega (arith, most, inside))

  -- a transaction is listed, and the front of its thread moves on
  pub AreFronts-listed : AreClosed trace listed → length listed ≡ length trace → (a k : ℕ) → IsCandidate trace listed a → IsFree trace listed a → IsBehind trace a k → AreFronts trace (set listed a true) (set fronts (thread_at trace a) k)
  AreFronts-listed closed count a k c free behind = record {
    names = record { each = λ i l. let n = length-set fronts t k in let g = w.names.each i l in omega (arith, n, g) };
    passed = λ i within before. ⊎_elim
        (λ same. ⊎_elim
        (λ early. more i (w.passed i within (let is = free-front a c free in let there : slice_index fronts (thread_at trace i) ≡ slice_index fronts t = ap (slice_index fronts) same in omega (arith, early, is, there))))
        (λ h. subst (λ b. IsTrue (has (set listed a true) b)) (sym (behind.mine i h (let is = at_t (thread_at trace i) same in omega (arith, before, is)) within same)) (get_or-set_same listed a true false inside))
        (cases_lt i a))
        (λ other. more i (w.passed i within (subst (λ f. i < f) (elsewhere (thread_at trace i) other) before)))
        (cases_eq (thread_at trace i) t);
    own = λ u l within. ⊎_elim
        (λ same. let is = at_t u same in ap (thread_at trace) is ∙ (behind.own (omega (arith, within, is)) ∙ sym same))
        (λ other. let is = elsewhere u other in ap (thread_at trace) is ∙ w.own u (let n = length-set fronts t k in omega (arith, l, n)) (omega (arith, within, is)))
        (cases_eq u t);
    left = λ u l within. ⊎_elim
        (λ same.
        let is = at_t u same in
        let here : k < length trace = omega (arith, within, is) in
        ap (λ f. has (set listed a true) (owner trace f)) is ∙ (get_or-set_other listed a (owner trace k) true false (behind.other here) ∙ fresh here))
        (λ other.
        let is = elsewhere u other in
        let known : u < length fronts = let n = length-set fronts t k in omega (arith, l, n) in
        let here : slice_index fronts u < length trace = omega (arith, within, is) in
        ap (λ f. has (set listed a true) (owner trace f)) is
        ∙ (get_or-set_other listed a (owner trace (slice_index fronts u)) true false (λ e. other (sym (one-thread trace (slice_index fronts u) here ∙ w.own u known here) ∙ ap (thread_at trace) e)) ∙ w.left u known here))
        (cases_eq u t);
  }
    where
      t : ℕ
      t = thread_at trace a

      inside : a < length listed
      inside = let l = c.within in omega (arith, l, count)

      at_t : (u : ℕ) → u ≡ t → slice_index (set fronts t k) u ≡ k
      at_t u same = ap (slice_index (set fronts t k)) same ∙ get_or-set_same fronts t k 0 (w.names.each a c.within)

      elsewhere : (u : ℕ) → u ≢ t → slice_index (set fronts t k) u ≡ slice_index fronts u
      elsewhere u other = get_or-set_other fronts t u k 0 other

      more : (i : ℕ) → IsTrue (has listed (owner trace i)) → IsTrue (has (set listed a true) (owner trace i))
      more i known = has-set listed a (owner trace i) inside known

      fresh : k < length trace → IsFalse (has listed (owner trace k))
      fresh here = ⊎_elim
          (λ known.
          let clash = own-conflict trace a k behind.after here (sym (behind.own here)) in
          absurd (both_ways _ c.not_listed (closed.each a (owner trace k) (record { from = a; to = k; in_order = behind.after; in_trace = here; in_conflict = clash; of_from = c.first; of_to = refl; differ = λ e. behind.other here (sym e) }) known)))
          (λ h. h)
          (cases_Bool (has listed (owner trace k)))

-- ---- one front more

-- what holds below n, and at n, holds below n + 1
below-more : (P : ℕ → Type 0) (n : ℕ) → ((t : ℕ) → t < n → P t) → P n → (t : ℕ) → t < n + 1 → P t
below-more P n each last t l = ⊎_elim (λ h. each t h) (λ h. subst P (let same : n ≡ t = omega (arith, h, l) in same) last) (cases_lt t n)

module _ (trace : List Event) (listed : List Bool) where
  -- no place is there
  pub IsNextSoFar-skip : (fronts : List ℕ) (n : ℕ) (next : Next) → length trace ≤ slice_index fronts n → IsNextSoFar trace listed fronts n next → IsNextSoFar trace listed fronts (n + 1) next
  IsNextSoFar-skip fronts n (Ready b) none h = (
    h.0,
    h.1,
    below-more (λ t. slice_index fronts t < length trace → IsFree trace listed (slice_index fronts t) → b ≤ slice_index fronts t) n h.2 (λ l. absurd (omega (arith, l, none))),
  )
  IsNextSoFar-skip fronts n Stuck none h = (h.0, below-more (λ t. slice_index fronts t < length trace → ¬ IsFree trace listed (slice_index fronts t)) n h.1 (λ l. absurd (omega (arith, l, none))))
  IsNextSoFar-skip fronts n Done none h = below-more (λ t. slice_index fronts t < length trace → ⊥) n h (λ l. omega (arith, l, none))

  module _ (a : ℕ) where
    pub IsWithFront-before : (next : Next) → IsTrue (is_before next a) → IsWithFront trace listed a next next
    IsWithFront-before (Ready b) before = record {
      each = λ fronts n at_n h. (
        h.0,
        h.1,
        below-more (λ t. slice_index fronts t < length trace → IsFree trace listed (slice_index fronts t) → b ≤ slice_index fronts t) n h.2 (λ l free. let less = ltb-true b a before in omega (arith, less, at_n)),
      );
    }
    IsWithFront-before Stuck before = absurd (false≢true before)
    IsWithFront-before Done before = absurd (false≢true before)

    module _ (candidate : IsCandidate trace listed a) where
      pub IsWithFront-free : (next : Next) → IsFalse (is_before next a) → IsFree trace listed a → IsWithFront trace listed a next (Ready a)
      IsWithFront-free next after free = record {
        each = λ fronts n at_n h. (
          candidate,
          free,
          below-more (λ t. slice_index fronts t < length trace → IsFree trace listed (slice_index fronts t) → a ≤ slice_index fronts t) n (least next after fronts n h) (λ l f. omega (arith, at_n)),
        );
      }
        where
          least : (next : Next) → IsFalse (is_before next a) → (fronts : List ℕ) (n : ℕ) → IsNextSoFar trace listed fronts n next → (t : ℕ) → t < n → slice_index fronts t < length trace → IsFree trace listed (slice_index fronts t) → a ≤ slice_index fronts t
          least (Ready b) after fronts n h t l within f = let distance = h.2 t l within f in let most = ltb-false b a after in omega (arith, distance, most)
          least Stuck after fronts n h t l within f = absurd (h.1 t l within f)
          least Done after fronts n h t l within f = absurd (h t l within)

      module _ (held : ¬ IsFree trace listed a) where
        pub IsWithFront-first : IsWithFront trace listed a Done Stuck
        IsWithFront-first = record {
          each = λ fronts n at_n h. (
            (a, candidate),
            below-more (λ t. slice_index fronts t < length trace → ¬ IsFree trace listed (slice_index fronts t)) n (λ t l within. absurd (h t l within)) (λ l f. held (subst (IsFree trace listed) at_n f)),
          );
        }

        pub IsWithFront-held : (next : Next) → (next ≡ Done → ⊥) → IsWithFront trace listed a next next
        IsWithFront-held (Ready b) some = record {
          each = λ fronts n at_n h. (
            h.0,
            h.1,
            below-more (λ t. slice_index fronts t < length trace → IsFree trace listed (slice_index fronts t) → b ≤ slice_index fronts t) n h.2 (λ l f. absurd (held (subst (IsFree trace listed) at_n f))),
          );
        }
        IsWithFront-held Stuck some = record {
          each = λ fronts n at_n h. (
            h.0,
            below-more (λ t. slice_index fronts t < length trace → ¬ IsFree trace listed (slice_index fronts t)) n h.1 (λ l f. held (subst (IsFree trace listed) at_n f)),
          );
        }
        IsWithFront-held Done some = absurd (some refl)
