-- Deadlocks and refusals of runs, as those of threads that want one action after another.
use Rattle.std.proofs.Common.{◌≡◌, ◌≢◌, ℕ, zero, suc, ◌+◌, ◌<◌, ◌≤◌, List, [], ◌∷◌, ◌++◌, length, take, Option, Some, None, refl, sym, ap, ◌∙◌, subst, arith, ⊎_elim, inl, inr}
use Rattle.std.specs.Option.{option_map}
use Rattle.std.specs.Prelude.{slice_get, IsTrue, IsFalse}
use Rattle.std.proofs.lemmas.Bool.{cases_lt, ne_eqb}
use Rattle.std.proofs.Math.Seq.{take-length}
use Rattle.std.proofs.lemmas.List.{get_or_past}
use Rattle.std.proofs.lemmas.Option.{none-some}
use Rattle.velo_events.specs.declared.config.Bounds.{Bounds}
use Rattle.velo_events.specs.declared.event.Event.{Event}
use Rattle.velo_events.specs.declared.event.Kind.{Kind}
use Rattle.velo_events.specs.declared.event.Kind.TheVariants.{Read, Write, Acquire, Release, AcquireShared, ReleaseShared, Begin, End, Fork, Join, Exit}
use Rattle.velo_events.specs.declared.event.Status.TheVariants.{Unborn}
use Rattle.velo_events.specs.declared.refusal.Refusal.{Refusal}
use Rattle.velo_events.specs.declared.refusal.Refusal.TheVariants.{Busy, NotExited}
use Rattle.velo_events.specs.Heap.{status_in}
use Rattle.velo_events.specs.Event.{are_same, thread_forked}
use Rattle.velo_events.specs.Meaning.{action_of, is_unborn, kind_for, refusal_of}
use Rattle.velo_events.specs.Tally.{events_of}
use Rattle.velo_events.specs.WellFormed.{IsWellFormed, NamesKnown}
use Rattle.velo_events.proofs.OnScans.{event_at, take-next}
use Rattle.velo_events.proofs.OnStatuses.{is_Unborn, others-unborn, unborn-same}
use Rattle.velo_search.specs.Faults as searched
use Rattle.velo_search.specs.Faults.{IsTurnedDown, SomeRefused}
use Rattle.velo_search.specs.Runs.{script_of}
use Rattle.velo_movers.specs.Programs.{own}
use Rattle.velo_movers.specs.Wants.{is_wait, refusal_at, IsIdle, IsRefused, IsStuck, HasRefusal}
use Rattle.velo_search.proofs.OnRunsOfScripts.{wants_by, length-own}

-- the two words for a wait say the same
same_wait : (r : Refusal) → searched.is_wait r ≡ is_wait r
same_wait Busy = refl
same_wait NotExited = refl
same_wait _ = refl

-- the value of a read plays no part in its refusal
refusal-asked : (bounds : Bounds) (log : List Event) (t : ℕ) (k : Kind) → refusal_of bounds log t (kind_for log (action_of k)) ≡ refusal_of bounds log t k
unfolding refusal_of
refusal-asked bounds log t (Read x v) = refl
refusal-asked bounds log t (Write x v) = refl
refusal-asked bounds log t (Acquire m) = refl
refusal-asked bounds log t (Release m) = refl
refusal-asked bounds log t (AcquireShared m) = refl
refusal-asked bounds log t (ReleaseShared m) = refl
refusal-asked bounds log t (Begin l) = refl
refusal-asked bounds log t End = refl
refusal-asked bounds log t (Fork u) = refl
refusal-asked bounds log t (Join u) = refl
refusal-asked bounds log t Exit = refl

-- ---- whose operations may be due

-- each thread that is born and has an operation left is there
abbrev pub AreKnown : Bounds → List (List Kind) → List Event → Type 0
AreKnown bounds scripts log = (t : ℕ) (k : Kind) → slice_get (script_of scripts t) (events_of log t) ≡ Some k → status_in log t ≢ Unborn → t < bounds.threads

-- where there are no more scripts than threads
pub known-few : (bounds : Bounds) (scripts : List (List Kind)) → length scripts ≤ bounds.threads → (log : List Event) → AreKnown bounds scripts log
known-few bounds scripts few log t k due born = ⊎_elim (λ l. l)
    (λ beyond. absurd (none-some k (sym (ap (λ ks. slice_get ks (events_of log t)) (get_or_past scripts t [] (let h : length scripts ≤ t = omega (arith, few, beyond) in h))) ∙ due)))
    (cases_lt t bounds.threads)

module _ (bounds : Bounds) (log : List Event) (well : IsWellFormed bounds log) (some : 0 < bounds.threads) (t : ℕ) (beyond : bounds.threads ≤ t) where
  no_fork : (k : Kind) → NamesKnown bounds k → IsFalse (are_same (thread_forked k) (Some t))
  no_fork (Fork u) known = ne_eqb u.0 t (λ same. omega (arith, same, known, beyond))
  no_fork _ known = refl

  -- a thread that is not there is never born
  never-born : (n : ℕ) → n ≤ length log → IsTrue (is_unborn (status_in (take n log) t))
  never-born zero l = others-unborn t (λ same. omega (arith, same, some, beyond))
  never-born (suc n) l =
      let e = event_at log n (omega (arith, l)) in
      let follows = well.each n e.0 e.1 in
      let more : take (suc n) log ≡ take n log ++ e.0 ∷ [] = ap (λ m. take m log) (let same : suc n ≡ n + 1 = omega arith in same) ∙ take-next log n e.0 e.1 in
      subst (λ xs. IsTrue (is_unborn (status_in xs t))) (sym more)
      (unborn-same bounds (take n log) e.0 t follows (no_fork e.0.kind follows.known_names) ∙ never-born n (omega (arith, l)))

-- where some thread is there, and the log can come about
pub known-run : (bounds : Bounds) (scripts : List (List Kind)) → 0 < bounds.threads → (log : List Event) → IsWellFormed bounds log → AreKnown bounds scripts log
known-run bounds scripts some log well t k due born = ⊎_elim (λ l. l)
    (λ beyond. absurd (born (is_Unborn (status_in log t)
    (subst (λ xs. IsTrue (is_unborn (status_in xs t))) (take-length log) (never-born bounds log well some t beyond (length log) (omega arith))))))
    (cases_lt t bounds.threads)

-- ---- the same deadlocks and refusals

module _ (bounds : Bounds) (scripts : List (List Kind)) (log : List Event) (known : AreKnown bounds scripts log) where
  -- the next operation of a thread
  next_of : ℕ → Option Kind
  next_of t = slice_get (script_of scripts t) (events_of log t)

  wants-next : (t : ℕ) → wants_by scripts t (own t log) ≡ option_map action_of (next_of t)
  unfolding next_of
  wants-next t = ap (λ n. option_map action_of (slice_get (script_of scripts t) n)) (length-own scripts t log)

  -- who is refused has an operation left, so the thread is there
  turned : (t : ℕ) (r : Refusal) → IsRefused bounds (wants_by scripts) log t r → (t < bounds.threads) × IsTurnedDown bounds scripts log t r
  unfolding next_of
  turned t r w = at (next_of t) refl
    where
      at : (o : Option Kind) → next_of t ≡ o → (t < bounds.threads) × IsTurnedDown bounds scripts log t r
      at None is = absurd (none-some r (sym (ap (refusal_at bounds log t) (wants-next t ∙ ap (option_map action_of) is)) ∙ w.refused))
      at (Some k) is = (
        known t k is w.born,
        record {
          kind = k;
          due = is;
          refused = sym (refusal-asked bounds log t k) ∙ (sym (ap (refusal_at bounds log t) (wants-next t ∙ ap (option_map action_of) is)) ∙ w.refused);
          born = w.born;
        },
      )

  idle : (t : ℕ) → IsIdle (wants_by scripts) log t → searched.IsIdle scripts log t
  unfolding next_of
  idle t (inr unborn) = inr unborn
  idle t (inl none) = inl (at (next_of t) refl)
    where
      at : (o : Option Kind) → next_of t ≡ o → next_of t ≡ None
      at None is = is
      at (Some k) is = absurd (none-some (action_of k) (sym none ∙ (wants-next t ∙ ap (option_map action_of) is)))

  waiting : (t : ℕ) (r : Refusal) → IsRefused bounds (wants_by scripts) log t r → IsTrue (is_wait r) → searched.IsWaiting bounds scripts log t
  waiting t r w waits = record { refusal = r; turned = (turned t r w).1; waits = same_wait r ∙ waits }

  pub searched-stuck : IsStuck bounds (wants_by scripts) log → searched.IsStuck bounds scripts log
  searched-stuck w = record {
    each = λ t l. ⊎_elim (λ none. inl (idle t none)) (λ r. inr (waiting t r.0 r.1 r.2)) (w.each t l);
    some = (w.waiting, (turned w.waiting w.reason w.waits).0, waiting w.waiting w.reason w.waits w.is_waiting);
  }

  pub searched-refused : HasRefusal bounds (wants_by scripts) log → SomeRefused bounds scripts log
  searched-refused w =
      let here = turned w.thread w.reason w.refused in
      record { some = (w.thread, here.0, record { refusal = w.reason; turned = here.1; for_good = same_wait w.reason ∙ w.no_wait }) }

  -- and the other way round

  wanted : (t : ℕ) (r : Refusal) → IsTurnedDown bounds scripts log t r → IsRefused bounds (wants_by scripts) log t r
  unfolding next_of
  wanted t r w = record {
    born = w.born;
    refused = ap (refusal_at bounds log t) (wants-next t ∙ ap (option_map action_of) w.due) ∙ (refusal-asked bounds log t w.kind ∙ w.refused);
  }

  wanted-idle : (t : ℕ) → searched.IsIdle scripts log t → IsIdle (wants_by scripts) log t
  unfolding next_of
  wanted-idle t (inr unborn) = inr unborn
  wanted-idle t (inl none) = inl (wants-next t ∙ ap (option_map action_of) none)

  pub wanted-stuck : searched.IsStuck bounds scripts log → IsStuck bounds (wants_by scripts) log
  wanted-stuck w =
      let waiting = w.some.2 in
      record {
        waiting = w.some.0;
        reason = waiting.refusal;
        waits = wanted w.some.0 waiting.refusal waiting.turned;
        is_waiting = sym (same_wait waiting.refusal) ∙ waiting.waits;
        each = λ t l. ⊎_elim (λ none. inl (wanted-idle t none)) (λ r. inr (r.refusal, wanted t r.refusal r.turned, sym (same_wait r.refusal) ∙ r.waits)) (w.each t l);
      }

  pub wanted-refused : SomeRefused bounds scripts log → HasRefusal bounds (wants_by scripts) log
  wanted-refused w =
      let here = w.some.2 in
      record { thread = w.some.0; reason = here.refusal; refused = wanted w.some.0 here.refusal here.turned; no_wait = sym (same_wait here.refusal) ∙ here.for_good }
