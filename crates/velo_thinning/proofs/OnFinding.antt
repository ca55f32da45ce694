-- What is kept of the events so far tells whether the next one repeats one.
use Rattle.std.proofs.Common.{◌≡◌, ◌≢◌, ℕ, zero, suc, ◌+◌, ◌-◌, ◌<◌, ◌≤◌, Bool, true, false, cond, Option, Some, None, List, length, get_or, set, refl, sym, ap, ◌∙◌, subst, arith, ⊎_elim, inl, inr, get_or-set_same, get_or-set_other, length-set}
use Rattle.std.specs.Prelude.{◌↔◌, ◌&&◌, ◌||◌, ◌==◌, if◌then◌else◌, replicate, slice_get, slice_index, IsTrue, IsFalse}
use Rattle.std.proofs.lemmas.List.{get_or_past, length-replicate}
use Rattle.std.proofs.lemmas.Bool.{cases_Bool, cases_eq, cases_lt, both_ways, eq-eqb, eqb-true, ne_eqb, or_from, or_left, or_right, or_parts, false_from_ne_true, false≢true}
use Rattle.velo_events.specs.declared.event.Event.{Event}
use Rattle.velo_events.specs.declared.event.Kind.{Kind}
use Rattle.velo_events.specs.declared.event.Kind.TheVariants.{Read, Write, Acquire, Release, AcquireShared, ReleaseShared, Begin, End, Fork, Join, Exit}
use Rattle.velo_events.specs.Event.{are_same, thread_of, variable_of, is_by, is_read, is_write, is_write_of, thread_forked_or_joined}
use Rattle.velo_events.specs.Block.{passes_at}
use Rattle.velo_events.specs.Conflict.{conflict}
use Rattle.velo_events.specs.Graph.{conflict_at}
use Rattle.velo_events.proofs.OnScans.{event_at, passes_at-event, passes_at-is}
use Rattle.velo_events.proofs.OnOwners.{passes_at-within}
use Rattle.velo_filter.specs.Tables.{marked}
use Rattle.velo_laws.proofs.OnOrderedPlaces.{conflict-is}
use Rattle.velo_thinning.specs.Repeating.{RepeatsAt, IsRepeat, AreExactly}
use Rattle.velo_thinning.specs.Finding.{after_last, is_near, is_access_to, IsFound, IsFresh, IsSmall, AreFound, handled_after, near_after, written_after, accessed_after}
use Rattle.velo_thinning.specs.declared.finder.Finder.{Finder}
use Rattle.velo_thinning.proofs.OnConflicts.{conflict-read, conflict-write}

-- ---- the last number that passes

module _ (test : ℕ → Bool) where
  pub after_last-suc : (n : ℕ) → after_last (suc n) test ≡ (if test n then suc n else after_last n test)
  unfolding after_last
  after_last-suc n = refl

  pub after_last-zero : after_last 0 test ≡ 0
  unfolding after_last
  after_last-zero = refl

  passes-suc : (n : ℕ) → IsTrue (test n) → after_last (suc n) test ≡ suc n
  passes-suc n h = after_last-suc n ∙ ap (λ b. if b then suc n else after_last n test) h

  fails-suc : (n : ℕ) → IsFalse (test n) → after_last (suc n) test ≡ after_last n test
  fails-suc n h = after_last-suc n ∙ ap (λ b. if b then suc n else after_last n test) h

  -- none passes from there on
  pub none-after : (n k : ℕ) → after_last n test ≤ k → k < n → IsFalse (test k)
  none-after zero k l m = absurd (omega (arith, m))
  none-after (suc n) k l m = ⊎_elim
      (λ h. let e = passes-suc n h in absurd (omega (arith, e, l, m)))
      (λ h. ⊎_elim
      (λ below. none-after n k (let e = fails-suc n h in omega (arith, e, l)) below)
      (λ above. subst (λ i. IsFalse (test i)) (let same : n ≡ k = omega (arith, above, m) in same) h)
      (cases_lt k n))
      (cases_Bool (test n))

  -- and the one there passes
  pub passes-last : (n i : ℕ) → after_last n test ≡ suc i → (i < n) × IsTrue (test i)
  passes-last zero i e = absurd (let z = after_last-zero in omega (arith, z, e))
  passes-last (suc n) i e = ⊎_elim
      (λ h. let p = passes-suc n h in let same : n ≡ i = omega (arith, p, e) in (omega (arith, same), subst (λ k. IsTrue (test k)) same h))
      (λ h. let w = passes-last n i (sym (fails-suc n h) ∙ e) in (let l = w.0 in omega (arith, l), w.1))
      (cases_Bool (test n))

  -- it is the one that passes with none after it
  pub after_last-at : (n i : ℕ) → i < n → IsTrue (test i) → ((k : ℕ) → i < k → k < n → IsFalse (test k)) → after_last n test ≡ suc i
  after_last-at zero i l h none = absurd (omega (arith, l))
  after_last-at (suc n) i l h none = ⊎_elim
      (λ below. fails-suc n (none n below (omega arith)) ∙ after_last-at n i below h (λ k a b. none k a (omega (arith, b))))
      (λ above. let same : i ≡ n = omega (arith, above, l) in passes-suc n (subst (λ k. IsTrue (test k)) same h) ∙ ap suc (sym same))
      (cases_lt i n)

  pub most : (m : ℕ) → after_last m test ≤ m
  most zero = let z = after_last-zero in omega (arith, z)
  most (suc m) = ⊎_elim (λ h. let e = passes-suc m h in omega (arith, e)) (λ h. let e = fails-suc m h in let r = most m in omega (arith, e, r)) (cases_Bool (test m))

  -- where none passes from i on
  pub after_last-le : (n i : ℕ) → ((k : ℕ) → i ≤ k → k < n → IsFalse (test k)) → after_last n test ≤ i
  after_last-le zero i none = let z = after_last-zero in omega (arith, z)
  after_last-le (suc n) i none = ⊎_elim
      (λ below. let e = fails-suc n (none n below (omega arith)) in let rest = after_last-le n i (λ k a b. none k a (omega (arith, b))) in omega (arith, e, rest))
      (λ above. let m = most (suc n) in omega (arith, m, above))
      (⊎_elim (λ l. inr l) (λ l. inl l) (cases_lt n i))

-- ---- an access that repeats one

module _ (log : List Event) (n : ℕ) (e : Event) (here : slice_get log n ≡ Some e) where
  abbrev near : ℕ → Bool
  near k = passes_at log (is_near (thread_of e)) k

  -- which test says what conflicts with it
  record IsConflict (test : Event → Bool) : Type 0 where
    is : (a : Event) → conflict a e ≡ (is_near (thread_of e) a || test a)

  module _ (test : Event → Bool) (means : IsConflict test) where
    not-conflict : (k : ℕ) → k < length log → IsFalse (near k) → IsFalse (passes_at log test k) → IsFalse (conflict_at log k n)
    not-conflict k l h g =
        let a = event_at log k l in
        conflict-is log k n a.0 e a.1 here ∙ (means.is a.0 ∙ or_from (is_near (thread_of e) a.0) (test a.0) (sym (passes_at-is log (is_near (thread_of e)) k a.0 a.1) ∙ h) (sym (passes_at-is log test k a.0 a.1) ∙ g))

    not-near : (k : ℕ) → k < length log → IsFalse (conflict_at log k n) → IsFalse (near k) × IsFalse (passes_at log test k)
    not-near k l h =
        let a = event_at log k l in
        let is = conflict-is log k n a.0 e a.1 here ∙ means.is a.0 in (
          passes_at-is log (is_near (thread_of e)) k a.0 a.1 ∙ false_from_ne_true _ (λ g. both_ways (conflict_at log k n) h (is ∙ or_left (is_near (thread_of e) a.0) (test a.0) g)),
          passes_at-is log test k a.0 a.1 ∙ false_from_ne_true _ (λ g. both_ways (conflict_at log k n) h (is ∙ or_right (is_near (thread_of e) a.0) (test a.0) g)),
        )

    between-from : (i : ℕ) → n < length log → after_last n near ≡ suc i → after_last n (passes_at log test) ≤ suc i → (k : ℕ) → i < k → k < n → IsFalse (conflict_at log k n)
    between-from i within last fresh k l m =
        not-conflict k (omega (arith, m, within)) (none-after near n k (omega (arith, last, l)) m) (none-after (passes_at log test) n k (omega (arith, fresh, l)) m)

    fresh-from : (i : ℕ) → n < length log → ((k : ℕ) → i < k → k < n → IsFalse (conflict_at log k n)) → after_last n (passes_at log test) ≤ suc i
    fresh-from i within between = after_last-le (passes_at log test) n (suc i) (λ k l m. (not-near k (omega (arith, m, within)) (between k (omega (arith, l)) m)).1)

    last-from : (i : ℕ) → n < length log → i < n → slice_get log i ≡ Some e → ((k : ℕ) → i < k → k < n → IsFalse (conflict_at log k n)) → after_last n near ≡ suc i
    last-from i within l again between = after_last-at near n i l
        (passes_at-is log (is_near (thread_of e)) i e again ∙ or_left (is_by (thread_of e) e) _ (eq-eqb (thread_of e) (thread_of e) refl))
        (λ k a b. (not-near k (omega (arith, b, within)) (between k a b)).0)

  module _ (f : Finder) (found : IsFound log n f) (within : n < length log) (known : thread_of e < 256) where
    -- what is kept of its thread
    abbrev pub count : ℕ
    count = slice_index f.near.items (thread_of e)

    count-is : count ≡ after_last n near
    count-is = found.near (thread_of e) known

    pub count-le : count ≤ n
    count-le = let m = most near n in let c = count-is in omega (arith, m, c)

    access-here : IsTrue (is_read e.kind || is_write e.kind) → IsTrue (passes_at log (λ d. is_read d.kind || is_write d.kind) n)
    access-here access = passes_at-is log (λ d. is_read d.kind || is_write d.kind) n e here ∙ access

    -- the last event near its thread is the one that it repeats
    repeated : (test : Event → Bool) → IsConflict test → (i : ℕ) → RepeatsAt log i n → (count ≡ suc i) × (slice_get log i ≡ Some e)
    repeated test means i r =
        let again : slice_get log i ≡ Some e = r.again ∙ here in
        (count-is ∙ last-from test means i within r.in_order again r.between, again)

    -- and nothing that conflicts came after it, by a table
    by_table : (test : Event → Bool) → IsConflict test → (last : ℕ) → last ≡ after_last n (passes_at log test) → IsTrue (is_read e.kind || is_write e.kind) →
        (i : ℕ) → count ≡ suc i → slice_get log i ≡ Some e → (last ≤ count → RepeatsAt log i n) × (RepeatsAt log i n → last ≤ count)
    by_table test means last is access i there again = (
      (λ fresh.
          let at : after_last n near ≡ suc i = sym count-is ∙ there in
          record {
            in_order = (passes-last near n i at).0;
            again = again ∙ sym here;
            access = access-here access;
            between = between-from test means i within at (omega (arith, is, there, fresh));
          }),
      (λ r. let fresh = fresh-from test means i within r.between in omega (arith, is, there, fresh)),
    )

    no_access : (X : Type 0) (k : Kind) → e.kind ≡ k → IsFalse (is_read k || is_write k) → (i : ℕ) → RepeatsAt log i n → X
    no_access X k is none i r = absurd (both_ways (is_read e.kind || is_write e.kind) (ap (λ k. is_read k || is_write k) is ∙ none) (sym (passes_at-is log (λ d. is_read d.kind || is_write d.kind) n e here) ∙ r.access))

    repeated-by : (k : Kind) → e.kind ≡ k → (i : ℕ) → RepeatsAt log i n → (count ≡ suc i) × (slice_get log i ≡ Some e)
    repeated-by (Read x v) is i = repeated (is_write_of x.0) (record { is = λ a. conflict-read a e x v is }) i
    repeated-by (Write x v) is i = repeated (is_access_to x.0) (record { is = λ a. conflict-write a e x v is }) i
    repeated-by (Acquire m) is i = no_access ((count ≡ suc i) × (slice_get log i ≡ Some e)) (Acquire m) is refl i
    repeated-by (Release m) is i = no_access ((count ≡ suc i) × (slice_get log i ≡ Some e)) (Release m) is refl i
    repeated-by (AcquireShared m) is i = no_access ((count ≡ suc i) × (slice_get log i ≡ Some e)) (AcquireShared m) is refl i
    repeated-by (ReleaseShared m) is i = no_access ((count ≡ suc i) × (slice_get log i ≡ Some e)) (ReleaseShared m) is refl i
    repeated-by (Begin l) is i = no_access ((count ≡ suc i) × (slice_get log i ≡ Some e)) (Begin l) is refl i
    repeated-by End is i = no_access ((count ≡ suc i) × (slice_get log i ≡ Some e)) End is refl i
    repeated-by (Fork u) is i = no_access ((count ≡ suc i) × (slice_get log i ≡ Some e)) (Fork u) is refl i
    repeated-by (Join u) is i = no_access ((count ≡ suc i) × (slice_get log i ≡ Some e)) (Join u) is refl i
    repeated-by Exit is i = no_access ((count ≡ suc i) × (slice_get log i ≡ Some e)) Exit is refl i

    none-fresh : (k : Kind) → e.kind ≡ k → IsFalse (is_read k || is_write k) → (i : ℕ) → (⊥ → RepeatsAt log i n) × (RepeatsAt log i n → ⊥)
    none-fresh k is none i = ((λ c. absurd c), no_access ⊥ k is none i)

    fresh-by : (k : Kind) → e.kind ≡ k → IsSmall k → (i : ℕ) → count ≡ suc i → slice_get log i ≡ Some e → (IsFresh f k count → RepeatsAt log i n) × (RepeatsAt log i n → IsFresh f k count)
    fresh-by (Read x v) is small i there again = by_table (is_write_of x.0) (record { is = λ a. conflict-read a e x v is }) (slice_index f.written.items x.0) (found.written x.0 small) (ap (λ k. is_read k || is_write k) is) i there again
    fresh-by (Write x v) is small i there again = by_table (is_access_to x.0) (record { is = λ a. conflict-write a e x v is }) (slice_index f.accessed.items x.0) (found.accessed x.0 small) (ap (λ k. is_read k || is_write k) is) i there again
    fresh-by (Acquire m) is small i there again = none-fresh (Acquire m) is refl i
    fresh-by (Release m) is small i there again = none-fresh (Release m) is refl i
    fresh-by (AcquireShared m) is small i there again = none-fresh (AcquireShared m) is refl i
    fresh-by (ReleaseShared m) is small i there again = none-fresh (ReleaseShared m) is refl i
    fresh-by (Begin l) is small i there again = none-fresh (Begin l) is refl i
    fresh-by End is small i there again = none-fresh End is refl i
    fresh-by (Fork u) is small i there again = none-fresh (Fork u) is refl i
    fresh-by (Join u) is small i there again = none-fresh (Join u) is refl i
    fresh-by Exit is small i there again = none-fresh Exit is refl i

    pub none-known : count ≡ 0 → IsRepeat log n → ⊥
    none-known none r = let w = (repeated-by e.kind refl r.0 r.1).0 in omega (arith, none, w)

    pub other-known : (i : ℕ) → count ≡ suc i → (slice_get log i ≡ Some e → ⊥) → IsRepeat log n → ⊥
    other-known i there other r =
        let w = repeated-by e.kind refl r.0 r.1 in
        let same : r.0 ≡ i = (let a = w.0 in omega (arith, a, there)) in
        other (ap (slice_get log) (sym same) ∙ w.1)

    pub same-known : (i : ℕ) → count ≡ suc i → slice_get log i ≡ Some e → IsSmall e.kind → IsFresh f e.kind count ↔ IsRepeat log n
    same-known i there again small = (
      (λ fresh. (i, (fresh-by e.kind refl small i there again).0 fresh)),
      (λ r.
          let a = (repeated-by e.kind refl r.0 r.1).0 in
          let same : r.0 ≡ i = omega (arith, a, there) in
          (fresh-by e.kind refl small i there again).1 (subst (λ k. RepeatsAt log k n) same r.1)),
    )

-- ---- one event more

get-set : (xs : List ℕ) (i c t : ℕ) → t < length xs → get_or (set xs i c) t 0 ≡ (if i == t then c else get_or xs t 0)
get-set xs i c t l = ⊎_elim
    (λ same. ap (λ k. get_or (set xs k c) t 0) same ∙ (get_or-set_same xs t c 0 l ∙ ap (λ b. if b then c else get_or xs t 0) (sym (eq-eqb i t same))))
    (λ differ. get_or-set_other xs i t c 0 (λ same. differ (sym same)) ∙ ap (λ b. if b then c else get_or xs t 0) (sym (ne_eqb i t differ)))
    (cases_eq i t)

if-or : (a b : Bool) (c z : ℕ) → (if b then c else (if a then c else z)) ≡ (if a || b then c else z)
if-or true true c z = refl
if-or true false c z = refl
if-or false true c z = refl
if-or false false c z = refl

or-none : (a : Bool) → (a || false) ≡ a
or-none true = refl
or-none false = refl

module _ (s c t : ℕ) (xs : List ℕ) (l : t < length xs) where
  alone : (k : Kind) → thread_forked_or_joined k ≡ None → get_or (set xs s c) t 0 ≡ (if (s == t) || are_same (thread_forked_or_joined k) (Some t) then c else get_or xs t 0)
  alone k none = get-set xs s c t l ∙ ap (λ b. if b then c else get_or xs t 0) (sym (ap (λ o. (s == t) || are_same o (Some t)) none ∙ or-none (s == t)))

  handled : (u : ℕ) → get_or (set (set xs s c) u c) t 0 ≡ (if (s == t) || (u == t) then c else get_or xs t 0)
  handled u =
      get-set (set xs s c) u c t (let e = length-set xs s c in omega (arith, e, l))
      ∙ (ap (λ z. if u == t then c else z) (get-set xs s c t l) ∙ if-or (s == t) (u == t) c (get_or xs t 0))

  near-get : (k : Kind) → get_or (handled_after (set xs s c) k c) t 0 ≡ (if (s == t) || are_same (thread_forked_or_joined k) (Some t) then c else get_or xs t 0)
  near-get (Fork u) = handled u.0
  near-get (Join u) = handled u.0
  near-get (Read x v) = alone (Read x v) refl
  near-get (Write x v) = alone (Write x v) refl
  near-get (Acquire m) = alone (Acquire m) refl
  near-get (Release m) = alone (Release m) refl
  near-get (AcquireShared m) = alone (AcquireShared m) refl
  near-get (ReleaseShared m) = alone (ReleaseShared m) refl
  near-get (Begin m) = alone (Begin m) refl
  near-get End = alone End refl
  near-get Exit = alone Exit refl

written-get : (k : Kind) (c t : ℕ) (xs : List ℕ) → t < length xs → get_or (written_after xs k c) t 0 ≡ (if is_write k && are_same (variable_of k) (Some t) then c else get_or xs t 0)
written-get (Write x v) c t xs l = get-set xs x.0 c t l
written-get _ c t xs l = refl

accessed-get : (k : Kind) (c t : ℕ) (xs : List ℕ) → t < length xs → get_or (accessed_after xs k c) t 0 ≡ (if are_same (variable_of k) (Some t) then c else get_or xs t 0)
accessed-get (Read x v) c t xs l = get-set xs x.0 c t l
accessed-get (Write x v) c t xs l = get-set xs x.0 c t l
accessed-get _ c t xs l = refl

length-handled : (k : Kind) (c : ℕ) (xs : List ℕ) → length (handled_after xs k c) ≡ length xs
length-handled (Fork u) c xs = length-set xs u.0 c
length-handled (Join u) c xs = length-set xs u.0 c
length-handled _ c xs = refl

length-written : (k : Kind) (c : ℕ) (xs : List ℕ) → length (written_after xs k c) ≡ length xs
length-written (Write x v) c xs = length-set xs x.0 c
length-written _ c xs = refl

length-accessed : (k : Kind) (c : ℕ) (xs : List ℕ) → length (accessed_after xs k c) ≡ length xs
length-accessed (Read x v) c xs = length-set xs x.0 c
length-accessed (Write x v) c xs = length-set xs x.0 c
length-accessed _ c xs = refl

-- one more position
next : (log : List Event) (n : ℕ) (e : Event) → slice_get log n ≡ Some e → (test : Event → Bool) (old new : ℕ) → old ≡ after_last n (passes_at log test)
    → new ≡ (if test e then n + 1 else old) → new ≡ after_last (n + 1) (passes_at log test)
next log n e here test old new was is =
    let one : suc n ≡ n + 1 = omega arith in
    is
    ∙ (ap (λ b. if b then n + 1 else old) (sym (passes_at-is log test n e here))
    ∙ (ap (λ o. if passes_at log test n then n + 1 else o) was
    ∙ (ap (λ m. if passes_at log test n then m else after_last n (passes_at log test)) (sym one)
    ∙ (sym (after_last-suc (passes_at log test) n) ∙ ap (λ m. after_last m (passes_at log test)) one))))

pub found-next : (log : List Event) (n : ℕ) (e : Event) → slice_get log n ≡ Some e → (f g : Finder) → IsFound log n f
    → g.near.items ≡ near_after f.near.items e (n + 1) → g.written.items ≡ written_after f.written.items e.kind (n + 1) → g.accessed.items ≡ accessed_after f.accessed.items e.kind (n + 1)
    → IsFound log (n + 1) g
found-next log n e here f g found near written accessed = record {
  threads = ap length near ∙ (length-handled e.kind (n + 1) (set f.near.items (thread_of e) (n + 1)) ∙ (length-set f.near.items (thread_of e) (n + 1) ∙ found.threads));
  written_count = ap length written ∙ (length-written e.kind (n + 1) f.written.items ∙ found.written_count);
  accessed_count = ap length accessed ∙ (length-accessed e.kind (n + 1) f.accessed.items ∙ found.accessed_count);
  near = λ t l. next log n e here (is_near t) (get_or f.near.items t 0) (get_or g.near.items t 0) (found.near t l)
      (ap (λ xs. get_or xs t 0) near ∙ near-get (thread_of e) (n + 1) t f.near.items (let c = found.threads in omega (arith, c, l)) e.kind);
  written = λ x l. next log n e here (is_write_of x) (get_or f.written.items x 0) (get_or g.written.items x 0) (found.written x l)
      (ap (λ xs. get_or xs x 0) written ∙ written-get e.kind (n + 1) x f.written.items (let c = found.written_count in omega (arith, c, l)));
  accessed = λ x l. next log n e here (is_access_to x) (get_or f.accessed.items x 0) (get_or g.accessed.items x 0) (found.accessed x l)
      (ap (λ xs. get_or xs x 0) accessed ∙ accessed-get e.kind (n + 1) x f.accessed.items (let c = found.accessed_count in omega (arith, c, l)));
}

-- ---- the start

pub found-start : (log : List Event) (f : Finder) (a b c : ℕ) → f.near.items ≡ replicate {A = ℕ} a 0 → f.written.items ≡ replicate {A = ℕ} b 0 → f.accessed.items ≡ replicate {A = ℕ} c 0 → a ≡ 256 → b ≡ 65536 → c ≡ 65536 → IsFound log 0 f
found-start log f a b c near written accessed an bn cn = record {
  threads = ap length near ∙ (length-replicate {A = ℕ} a 0 ∙ an);
  written_count = ap length written ∙ (length-replicate {A = ℕ} b 0 ∙ bn);
  accessed_count = ap length accessed ∙ (length-replicate {A = ℕ} c 0 ∙ cn);
  near = λ t l. ap (λ xs. get_or xs t 0) near ∙ (zeros a t ∙ sym (after_last-zero (passes_at log (is_near t))));
  written = λ x l. ap (λ xs. get_or xs x 0) written ∙ (zeros b x ∙ sym (after_last-zero (passes_at log (is_write_of x))));
  accessed = λ x l. ap (λ xs. get_or xs x 0) accessed ∙ (zeros c x ∙ sym (after_last-zero (passes_at log (is_access_to x))));
}
  where
    zeros : (n t : ℕ) → get_or {A = ℕ} (replicate {A = ℕ} n 0) t 0 ≡ 0
    zeros zero t = refl
    zeros (suc n) zero = refl
    zeros (suc n) (suc t) = zeros n t

-- ---- the marks

pub marks-next : (log : List Event) (n : ℕ) (marks : List Bool) (b : Bool) → n < length log → AreFound log n marks → (IsTrue b ↔ IsRepeat log n) → AreFound log (n + 1) (set marks n b)
marks-next log n marks b within found here = record {
  count = length-set marks n b ∙ found.count;
  exact = λ j l. ⊎_elim
      (λ below. subst (λ m. IsTrue m ↔ IsRepeat log j) (sym (get_or-set_other marks n j b false (λ same. omega (arith, same, below)))) (found.exact j below))
      (λ at. let same : n ≡ j = omega (arith, at, l) in
      subst (λ k. IsTrue (get_or (set marks n b) k false) ↔ IsRepeat log k) same
      (subst (λ m. IsTrue m ↔ IsRepeat log n) (sym (get_or-set_same marks n b false (let c = found.count in omega (arith, c, within)))) here))
      (cases_lt j n);
}

pub marks-start : (log : List Event) (marks : List Bool) → marks ≡ replicate (length log) false → AreFound log 0 marks
marks-start log marks is = record { count = ap length is ∙ length-replicate (length log) false; exact = λ j l. absurd (omega (arith, l)) }

pub marks-all : (log : List Event) (marks : List Bool) → AreFound log (length log) marks → AreExactly (marked marks) log
marks-all log marks found j = ⊎_elim (λ l. found.exact j l)
    (λ past. (
      (λ m. absurd (both_ways (get_or marks j false) (get_or_past marks j false (let c = found.count in omega (arith, c, past))) m)),
      (λ r. absurd (let l = passes_at-within log (λ e. is_read e.kind || is_write e.kind) j r.1.access in omega (arith, l, past))),
    ))
    (cases_lt j (length log))
