-- The latest accesses of a transaction, event by event.
use Rattle.std.proofs.Common.{◌≡◌, ◌≢◌, ◌∙◌, ℕ, Bool, true, false, ◌==◌, ◌+◌, ◌<◌, if◌then◌else◌, get_or, set, suc, List, length, refl, sym, ap, subst, zero, ◌≤◌, add-one, arith, ⊎_elim, ◌&&◌}
use Rattle.std.proofs.lemmas.Bool.{cases_Bool, cases_eq, eq-eqb, ne_eqb}
use Rattle.std.proofs.lemmas.Grind.{get_or-set_at}
use Rattle.std.proofs.lemmas.List.{get_or-set_other}
use Rattle.velo_events.specs.Block.{owner}
use Rattle.velo_events.specs.declared.event.Event.{Event}
use Rattle.velo_events.specs.declared.event.Kind.{Kind}
use Rattle.velo_events.specs.declared.event.Kind.TheVariants.{Acquire, AcquireShared, Begin, End, Exit, Fork, Join, Read, Release, ReleaseShared, Write}
use Rattle.velo_certify.specs.Owners.{event_at}
use Rattle.velo_explain.specs.Latest.{AreLatest, HavePlaces, IsNoted}
use Rattle.velo_explain.specs.Pairs.{accesses, is_access_to, is_write_to, latest_below, latest_for, writes}
use Rattle.velo_explain.specs.declared.latest.LatestAccesses.{LatestAccesses}

latest-next : (n : ℕ) (test : ℕ → Bool) → latest_below (n + 1) test ≡ (if test n then suc n else latest_below n test)
unfolding latest_below
latest-next n test = ap (λ k. latest_below k test) (add-one n)

latest-yes : (n : ℕ) (test : ℕ → Bool) → test n ≡ true → latest_below (n + 1) test ≡ n + 1
latest-yes n test passes = latest-next n test ∙ (ap (λ b. if b then suc n else latest_below n test) passes ∙ sym (add-one n))

latest-no : (n : ℕ) (test : ℕ → Bool) → test n ≡ false → latest_below (n + 1) test ≡ latest_below n test
latest-no n test fails = latest-next n test ∙ ap (λ b. if b then suc n else latest_below n test) fails

-- a list that is the same, where the test fails at n
kept : (xs ys : List ℕ) (v n : ℕ) (test : ℕ → Bool) → ys ≡ xs → test n ≡ false → get_or xs v 0 ≡ latest_below n test → get_or ys v 0 ≡ latest_below (n + 1) test
kept xs ys v n test same fails is = ap (λ l. get_or l v 0) same ∙ (is ∙ sym (latest-no n test fails))

-- a list in which the number stands at x
noted : (xs ys : List ℕ) (x v n : ℕ) (test : ℕ → Bool) → ys ≡ set xs x (n + 1) → length xs ≡ 65536 → v < 65536 → test n ≡ (x == v) → get_or xs v 0 ≡ latest_below n test → get_or ys v 0 ≡ latest_below (n + 1) test
noted xs ys x v n test now places within by is = ⊎_elim here elsewhere (cases_eq x v)
  where
    here : x ≡ v → get_or ys v 0 ≡ latest_below (n + 1) test
    here e = ap (λ l. get_or l v 0) now ∙ (get_or-set_at xs x v (n + 1) 0 (sym e) (omega (arith, places, within, e)) ∙ sym (latest-yes n test (by ∙ eq-eqb x v e)))

    elsewhere : x ≢ v → get_or ys v 0 ≡ latest_below (n + 1) test
    elsewhere e = ap (λ l. get_or l v 0) now ∙ (get_or-set_other xs x v (n + 1) 0 (λ h. e (sym h)) ∙ (is ∙ sym (latest-no n test (by ∙ ne_eqb x v e))))

own_access : (log : List Event) (a v n : ℕ) (k : Kind) → owner log n ≡ a → (event_at log n).kind ≡ k → accesses log a v n ≡ is_access_to v k
own_access log a v n k own is = ap (λ b. b && is_access_to v (event_at log n).kind) (eq-eqb (owner log n) a own) ∙ ap (is_access_to v) is

own_write : (log : List Event) (a v n : ℕ) (k : Kind) → owner log n ≡ a → (event_at log n).kind ≡ k → writes log a v n ≡ is_write_to v k
own_write log a v n k own is = ap (λ b. b && is_write_to v (event_at log n).kind) (eq-eqb (owner log n) a own) ∙ ap (is_write_to v) is

module _ (log : List Event) (a n : ℕ) (old new : LatestAccesses) (own : owner log n ≡ a) (places : HavePlaces old) (latest : AreLatest log a n old) where
  neither : (k : Kind) → (event_at log n).kind ≡ k → ((v : ℕ) → is_access_to v k ≡ false) → ((v : ℕ) → is_write_to v k ≡ false) → new.accesses.items ≡ old.accesses.items → new.writes.items ≡ old.writes.items → AreLatest log a (n + 1) new
  neither k is no_access no_write same same_writes = record {
    accesses = λ v within. kept old.accesses.items new.accesses.items v n (accesses log a v) same (own_access log a v n k own is ∙ no_access v) (latest.accesses v within);
    writes = λ v within. kept old.writes.items new.writes.items v n (writes log a v) same_writes (own_write log a v n k own is ∙ no_write v) (latest.writes v within);
  }

  pub own-next : (k : Kind) → (event_at log n).kind ≡ k → IsNoted k (n + 1) old new → AreLatest log a (n + 1) new
  own-next (Read x value) is it = record {
    accesses = λ v within. noted old.accesses.items new.accesses.items x.0 v n (accesses log a v) it.0 places.accesses within (own_access log a v n (Read x value) own is) (latest.accesses v within);
    writes = λ v within. kept old.writes.items new.writes.items v n (writes log a v) it.1 (own_write log a v n (Read x value) own is) (latest.writes v within);
  }
  own-next (Write x value) is it = record {
    accesses = λ v within. noted old.accesses.items new.accesses.items x.0 v n (accesses log a v) it.0 places.accesses within (own_access log a v n (Write x value) own is) (latest.accesses v within);
    writes = λ v within. noted old.writes.items new.writes.items x.0 v n (writes log a v) it.1 places.writes within (own_write log a v n (Write x value) own is) (latest.writes v within);
  }
  own-next (Acquire m) is it = neither (Acquire m) is (λ v. refl) (λ v. refl) it.0 it.1
  own-next (Release m) is it = neither (Release m) is (λ v. refl) (λ v. refl) it.0 it.1
  own-next (AcquireShared m) is it = neither (AcquireShared m) is (λ v. refl) (λ v. refl) it.0 it.1
  own-next (ReleaseShared m) is it = neither (ReleaseShared m) is (λ v. refl) (λ v. refl) it.0 it.1
  own-next (Begin l) is it = neither (Begin l) is (λ v. refl) (λ v. refl) it.0 it.1
  own-next End is it = neither End is (λ v. refl) (λ v. refl) it.0 it.1
  own-next (Fork u) is it = neither (Fork u) is (λ v. refl) (λ v. refl) it.0 it.1
  own-next (Join u) is it = neither (Join u) is (λ v. refl) (λ v. refl) it.0 it.1
  own-next Exit is it = neither Exit is (λ v. refl) (λ v. refl) it.0 it.1

pub other-next : (log : List Event) (a n : ℕ) (latest : LatestAccesses) → owner log n ≢ a → AreLatest log a n latest → AreLatest log a (n + 1) latest
other-next log a n latest other are = record {
  accesses = λ v within. are.accesses v within ∙ sym (latest-no n (accesses log a v) (ap (λ b. b && is_access_to v (event_at log n).kind) (ne_eqb (owner log n) a other)));
  writes = λ v within. are.writes v within ∙ sym (latest-no n (writes log a v) (ap (λ b. b && is_write_to v (event_at log n).kind) (ne_eqb (owner log n) a other)));
}

latest-le : (n : ℕ) (test : ℕ → Bool) → latest_below n test ≤ n
unfolding latest_below
latest-le zero test = omega arith
latest-le (suc n) test = ⊎_elim
    (λ passes. subst (λ k. k ≤ suc n) (sym (ap (λ b. if b then suc n else latest_below n test) passes)) (omega arith))
    (λ fails. subst (λ k. k ≤ suc n) (sym (ap (λ b. if b then suc n else latest_below n test) fails)) (let before = latest-le n test in omega (arith, before)))
    (cases_Bool (test n))

pub latest_for-le : (log : List Event) (a j : ℕ) (k : Kind) → latest_for log a j k ≤ j
latest_for-le log a j (Read x value) = latest-le j (writes log a x.0)
latest_for-le log a j (Write x value) = latest-le j (accesses log a x.0)
latest_for-le log a j (Acquire m) = omega arith
latest_for-le log a j (Release m) = omega arith
latest_for-le log a j (AcquireShared m) = omega arith
latest_for-le log a j (ReleaseShared m) = omega arith
latest_for-le log a j (Begin l) = omega arith
latest_for-le log a j End = omega arith
latest_for-le log a j (Fork u) = omega arith
latest_for-le log a j (Join u) = omega arith
latest_for-le log a j Exit = omega arith
