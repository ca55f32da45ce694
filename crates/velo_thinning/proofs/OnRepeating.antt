-- Each access that repeats one repeats one that stays.
use Rattle.std.proofs.Common.{◌≡◌, ℕ, zero, suc, ◌+◌, ◌<◌, ◌≤◌, Bool, Option, Some, List, length, refl, sym, ap, ◌∙◌, subst, arith, ⊎_elim, inl, inr}
use Rattle.std.specs.Prelude.{◌&&◌, ◌||◌, ◌⊎◌, slice_get, IsTrue, IsFalse}
use Rattle.std.proofs.lemmas.Bool.{cases_Bool, cases_lt, cases_order, both_ways, and_from, eq-eqb, false≢true}
use Rattle.velo_events.specs.declared.event.Event.{Event}
use Rattle.velo_events.specs.declared.event.Kind.{Kind}
use Rattle.velo_events.specs.declared.event.Kind.TheVariants.{Read, Write}
use Rattle.velo_events.specs.Event.{are_same, thread_of, is_by, access_of, cell_of, is_exclusive, is_shared, is_read, is_write, is_writing, is_reading}
use Rattle.velo_events.specs.Block.{passes_at}
use Rattle.velo_events.specs.Graph.{both_conflict, conflict_at}
use Rattle.velo_events.proofs.OnScans.{event_at, passes_at-event, passes_at-is}
use Rattle.velo_laws.specs.Repeats.{IsAlike, Repeats, AreRepeats, AreEqualAccesses}
use Rattle.velo_thinning.specs.Repeating.{RepeatsAt, IsRepeat, AreExactly}

abbrev is_access : Event → Bool
is_access e = is_read e.kind || is_write e.kind

same-passes : (log : List Event) (test : Event → Bool) (i j : ℕ) → slice_get log i ≡ slice_get log j → IsTrue (passes_at log test j) → IsTrue (passes_at log test i)
same-passes log test i j same h =
    let e = passes_at-event log test j h in
    passes_at-is log test i e.0 (same ∙ e.1) ∙ e.2

same-conflict : (log : List Event) (k i j : ℕ) → slice_get log i ≡ slice_get log j → conflict_at log k i ≡ conflict_at log k j
unfolding conflict_at
same-conflict log k i j same = ap (both_conflict (slice_get log k)) same

-- the cell of an access
cell-by : (k : Kind) → IsTrue (is_read k || is_write k) → (c : ℕ) × (IsTrue (is_exclusive (access_of k) && are_same (cell_of (access_of k)) (Some c)) ⊎ IsTrue (is_shared (access_of k) && are_same (cell_of (access_of k)) (Some c)))
cell-by (Read x v) h = (x.0 + x.0, inr (eq-eqb (x.0 + x.0) (x.0 + x.0) refl))
cell-by (Write x v) h = (x.0 + x.0, inl (eq-eqb (x.0 + x.0) (x.0 + x.0) refl))
cell-by _ h = absurd (false≢true h)

module _ (goes : ℕ → Bool) (log : List Event) (exact : AreExactly goes log) where
  -- the first of those that do the same
  pub record IsFirst (j : ℕ) : Type 0 where
    pub first : ℕ
    pub in_order : first < j
    pub stays : IsFalse (goes first)
    pub again : slice_get log first ≡ slice_get log j
    pub access : IsTrue (passes_at log is_access j)
    pub between : (k : ℕ) → first < k → k < j → IsTrue (conflict_at log k j) → IsTrue (goes k)

  next : (j i : ℕ) → IsTrue (goes i) → RepeatsAt log i j → IsFirst i → IsFirst j
  next j i gone w f = record {
    first = f.first;
    in_order = (let a = f.in_order in let b = w.in_order in omega (arith, a, b));
    stays = f.stays;
    again = f.again ∙ w.again;
    access = w.access;
    between = λ k l m c. ⊎_elim
        (λ same. subst (λ n. IsTrue (goes n)) (sym same) gone)
        (⊎_elim
        (λ before. f.between k l before (same-conflict log k i j w.again ∙ c))
        (λ after. absurd (both_ways (conflict_at log k j) (w.between k after m) c)))
        (cases_order k i);
  }

  first-below : (n j : ℕ) → j < n → IsTrue (goes j) → IsFirst j
  first-below zero j l g = absurd (omega (arith, l))
  first-below (suc n) j l g =
      let r = (exact j).0 g in
      ⊎_elim
      (λ gone. next j r.0 gone r.1 (first-below n r.0 (let o = r.1.in_order in omega (arith, o, l)) gone))
      (λ stay. record {
        first = r.0;
        in_order = r.1.in_order;
        stays = stay;
        again = r.1.again;
        access = r.1.access;
        between = λ k a b c. absurd (both_ways (conflict_at log k j) (r.1.between k a b) c);
      })
      (cases_Bool (goes r.0))

  first-of : (j : ℕ) → IsTrue (goes j) → IsFirst j
  first-of j g = first-below (j + 1) j (omega arith) g

  alike : (j : ℕ) → (f : IsFirst j) → IsAlike log f.first j
  alike j f =
      let e = passes_at-event log is_access j f.access in
      let t = thread_of e.0 in
      let own = passes_at-is log (is_by t) j e.0 e.1 ∙ eq-eqb t t refl in
      let c = cell-by e.0.kind e.2 in
      record {
        thread = t;
        own_first = same-passes log (is_by t) f.first j f.again own;
        own = own;
        cell = c.0;
        same = ⊎_elim
            (λ h. let w = passes_at-is log (is_writing c.0) j e.0 e.1 ∙ h in inl (same-passes log (is_writing c.0) f.first j f.again w, w))
            (λ h. let w = passes_at-is log (is_reading c.0) j e.0 e.1 ∙ h in inr (same-passes log (is_reading c.0) f.first j f.again w, w)) c.1;
      }

  pub repeats_of : AreRepeats goes log
  repeats_of j g = let f = first-of j g in record {
    first = f.first;
    in_order = f.in_order;
    alike = alike j f;
    first_stays = f.stays;
    between = f.between;
  }

  pub equal_accesses : AreEqualAccesses goes log repeats_of
  unfolding repeats_of
  equal_accesses j g = let f = first-of j g in (f.again, f.access)
