-- What a thread has and may do, by its own events.
use Rattle.std.proofs.Common.{◌≡◌, ℕ, ◌+◌, Bool, true, false, cond, List, [], ◌∷◌, ◌++◌, Some, None, refl, sym, ap, ◌∙◌, arith, ⊎_elim}
use Rattle.std.specs.Prelude.{◌&&◌, ◌||◌, if◌then◌else◌, IsTrue, IsFalse}
use Rattle.std.proofs.lemmas.Bool.{and_right, cases_Bool, eq-eqb, false≢true}
use Rattle.std.proofs.lemmas.Option.{none-some, same_Some}
use Rattle.velo_events.specs.declared.config.Bounds.{Bounds}
use Rattle.velo_events.specs.declared.event.Event.{Event}
use Rattle.velo_events.specs.declared.event.Kind.{Kind}
use Rattle.velo_events.specs.declared.event.Kind.TheVariants.{Read}
use Rattle.velo_events.specs.Event.{are_same, thread_of, exclusive_lock_of, shared_lock_of, is_by, is_read, is_exit, is_acquire, is_acquire_shared, is_on_lock}
use Rattle.velo_events.specs.Heap.{happened, times, holder_in, shares_in}
use Rattle.velo_events.specs.WellFormed.{IsWellFormed}
use Rattle.velo_events.proofs.OnTraces.{append-induct, happened-nil, happened-no, happened-push, times-nil, times-push}
use Rattle.velo_events.proofs.OnWellFormed.{holder_in-push, shares_in-push}
use Rattle.velo_movers.specs.Programs.{own}
use Rattle.velo_movers.proofs.OnHolders.{holder-by_own, own-push_no, own-push_yes, shares-by_own}

-- ---- what happened to a thread, by its own events

module _ (t : ℕ) (test : Event → Bool) where
  pub times-own : (trace : List Event) → times (λ e. is_by t e && test e) trace ≡ times test (own t trace)
  times-own trace = append-induct (λ es. times (λ e. is_by t e && test e) es ≡ times test (own t es)) next [] trace (times-nil (λ e. is_by t e && test e) ∙ sym (times-nil test))
    where
      next : (es : List Event) (g : Event) → times (λ e. is_by t e && test e) es ≡ times test (own t es) → times (λ e. is_by t e && test e) (es ++ g ∷ []) ≡ times test (own t (es ++ g ∷ []))
      next es g before = ⊎_elim
          (λ its. times-push (λ e. is_by t e && test e) es g ∙ (ap (λ b. times (λ e. is_by t e && test e) es + (if (b && test g) then 1 else 0)) its ∙ (ap (λ n. n + (if test g then 1 else 0)) before
          ∙ (sym (times-push test (own t es) g) ∙ ap (times test) (sym (own-push_yes t es g its))))))
          (λ not_its. times-push (λ e. is_by t e && test e) es g ∙ (ap (λ b. times (λ e. is_by t e && test e) es + (if (b && test g) then 1 else 0)) not_its ∙ (plus_nothing (times (λ e. is_by t e && test e) es) ∙ (before ∙ ap (times test) (sym (own-push_no t es g not_its))))))
          (cases_Bool (is_by t g))
        where
          plus_nothing : (n : ℕ) → n + 0 ≡ n
          plus_nothing n = omega arith

  pub happened-own : (trace : List Event) → happened (λ e. is_by t e && test e) trace ≡ happened test (own t trace)
  happened-own trace = append-induct (λ es. happened (λ e. is_by t e && test e) es ≡ happened test (own t es)) next [] trace (happened-nil (λ e. is_by t e && test e) ∙ sym (happened-nil test))
    where
      or_nothing : (b : Bool) → (b || false) ≡ b
      or_nothing true = refl
      or_nothing false = refl

      next : (es : List Event) (g : Event) → happened (λ e. is_by t e && test e) es ≡ happened test (own t es) → happened (λ e. is_by t e && test e) (es ++ g ∷ []) ≡ happened test (own t (es ++ g ∷ []))
      next es g before = ⊎_elim
          (λ its. happened-push (λ e. is_by t e && test e) es g ∙ (ap (λ b. happened (λ e. is_by t e && test e) es || (b && test g)) its ∙ (ap (λ b. b || test g) before
          ∙ (sym (happened-push test (own t es) g) ∙ ap (happened test) (sym (own-push_yes t es g its))))))
          (λ not_its. happened-push (λ e. is_by t e && test e) es g ∙ (ap (λ b. happened (λ e. is_by t e && test e) es || (b && test g)) not_its ∙ (or_nothing (happened (λ e. is_by t e && test e) es) ∙ (before ∙ ap (happened test) (sym (own-push_no t es g not_its))))))
          (cases_Bool (is_by t g))

-- a thread that has a lock alone has it by its own events
pub holder-to_own : (t m : ℕ) (trace : List Event) → holder_in trace m ≡ Some t → holder_in (own t trace) m ≡ Some t
holder-to_own t m trace = append-induct (λ es. holder_in es m ≡ Some t → holder_in (own t es) m ≡ Some t) next [] trace (λ h. h)
  where
    next : (es : List Event) (g : Event) → (holder_in es m ≡ Some t → holder_in (own t es) m ≡ Some t) → holder_in (es ++ g ∷ []) m ≡ Some t → holder_in (own t (es ++ g ∷ [])) m ≡ Some t
    next es g before h = by_lock (is_on_lock m g) (is_acquire g.kind) refl refl (sym (holder_in-push es g m) ∙ h)
      where
        by_lock : (on acquires : Bool) → is_on_lock m g ≡ on → is_acquire g.kind ≡ acquires → (if on then (if acquires then Some (thread_of g) else None) else holder_in es m) ≡ Some t → holder_in (own t (es ++ g ∷ [])) m ≡ Some t
        by_lock true true on takes same =
            let by_t : thread_of g ≡ t = same_Some (thread_of g) t same in
            ap (λ l. holder_in l m) (own-push_yes t es g (eq-eqb (thread_of g) t by_t)) ∙ (holder_in-push (own t es) g m ∙ (ap (λ b. cond b (cond (is_acquire g.kind) (Some (thread_of g)) None) (holder_in (own t es) m)) on ∙ (ap (λ b. cond b (Some (thread_of g)) None) takes ∙ same)))
        by_lock true false on takes same = absurd (none-some t same)
        by_lock false acquires off takes same = ⊎_elim
            (λ its. ap (λ l. holder_in l m) (own-push_yes t es g its) ∙ (holder_in-push (own t es) g m ∙ (ap (λ b. cond b (cond (is_acquire g.kind) (Some (thread_of g)) None) (holder_in (own t es) m)) off ∙ before same)))
            (λ not_its. ap (λ l. holder_in l m) (own-push_no t es g not_its) ∙ before same)
            (cases_Bool (is_by t g))

-- ---- lists of events that differ in the value of the last read at most

pub data AreAlike (mine theirs : List Event) : Type 0 where
  Same : mine ≡ theirs → AreAlike mine theirs
  LastRead : (before : List Event) (d f : Event) → mine ≡ before ++ d ∷ [] → theirs ≡ before ++ f ∷ [] → IsTrue (is_read d.kind) → IsTrue (is_read f.kind) → AreAlike mine theirs

-- what a read is not
read-no_lock : (k : Kind) (m : ℕ) → IsTrue (is_read k) → IsFalse (are_same (exclusive_lock_of k) (Some m))
read-no_lock (Read x v) m h = refl
read-no_lock _ m h = absurd (false≢true h)

read-no_share : (k : Kind) (m : ℕ) → IsTrue (is_read k) → IsFalse (are_same (shared_lock_of k) (Some m))
read-no_share (Read x v) m h = refl
read-no_share _ m h = absurd (false≢true h)

pub read-no_exit : (k : Kind) → IsTrue (is_read k) → IsFalse (is_exit k)
read-no_exit (Read x v) h = refl
read-no_exit _ h = absurd (false≢true h)

holder-read : (es : List Event) (d : Event) (m : ℕ) → IsTrue (is_read d.kind) → holder_in (es ++ d ∷ []) m ≡ holder_in es m
holder-read es d m read = holder_in-push es d m ∙ ap (λ b. cond b (cond (is_acquire d.kind) (Some (thread_of d)) None) (holder_in es m)) (read-no_lock d.kind m read)

shares-read : (es : List Event) (d : Event) (m t : ℕ) → IsTrue (is_read d.kind) → shares_in (es ++ d ∷ []) m t ≡ shares_in es m t
shares-read es d m t read = shares_in-push es d m t ∙ ap (λ b. cond b (is_acquire_shared d.kind) (shares_in es m t)) (and_right (is_by t d) _ (read-no_share d.kind m read))

exit-read : (es : List Event) (d : Event) → IsTrue (is_read d.kind) → happened (λ e. is_exit e.kind) (es ++ d ∷ []) ≡ happened (λ e. is_exit e.kind) es
exit-read es d read = happened-no (λ e. is_exit e.kind) es d (read-no_exit d.kind read)

pub alike-holder : (mine theirs : List Event) (m : ℕ) → AreAlike mine theirs → holder_in mine m ≡ holder_in theirs m
alike-holder mine theirs m (Same h) = ap (λ es. holder_in es m) h
alike-holder mine theirs m (LastRead before d f h k read other) =
    ap (λ es. holder_in es m) h ∙ (holder-read before d m read ∙ (sym (holder-read before f m other) ∙ ap (λ es. holder_in es m) (sym k)))

pub alike-shares : (mine theirs : List Event) (m t : ℕ) → AreAlike mine theirs → shares_in mine m t ≡ shares_in theirs m t
alike-shares mine theirs m t (Same h) = ap (λ es. shares_in es m t) h
alike-shares mine theirs m t (LastRead before d f h k read other) =
    ap (λ es. shares_in es m t) h ∙ (shares-read before d m t read ∙ (sym (shares-read before f m t other) ∙ ap (λ es. shares_in es m t) (sym k)))

pub alike-exit : (mine theirs : List Event) → AreAlike mine theirs → happened (λ e. is_exit e.kind) mine ≡ happened (λ e. is_exit e.kind) theirs
alike-exit mine theirs (Same h) = ap (happened (λ e. is_exit e.kind)) h
alike-exit mine theirs (LastRead before d f h k read other) =
    ap (happened (λ e. is_exit e.kind)) h ∙ (exit-read before d read ∙ (sym (exit-read before f other) ∙ ap (happened (λ e. is_exit e.kind)) (sym k)))

-- ---- two traces in which a thread did alike

module _ (bounds : Bounds) (q r : List Event) (well_q : IsWellFormed bounds q) (well_r : IsWellFormed bounds r) (t : ℕ) (alike : AreAlike (own t q) (own t r)) where
  pub holder-forth : (m : ℕ) → holder_in q m ≡ Some t → holder_in r m ≡ Some t
  holder-forth m h = holder-by_own bounds t m r well_r (sym (alike-holder (own t q) (own t r) m alike) ∙ holder-to_own t m q h)

  pub holder-back : (m : ℕ) → holder_in r m ≡ Some t → holder_in q m ≡ Some t
  holder-back m h = holder-by_own bounds t m q well_q (alike-holder (own t q) (own t r) m alike ∙ holder-to_own t m r h)

  pub shares-same : (m : ℕ) → shares_in q m t ≡ shares_in r m t
  shares-same m = sym (shares-by_own bounds t m q well_q) ∙ (alike-shares (own t q) (own t r) m t alike ∙ shares-by_own bounds t m r well_r)

pub exit-same : (q r : List Event) (t : ℕ) → AreAlike (own t q) (own t r) → happened (λ e. is_by t e && is_exit e.kind) q ≡ happened (λ e. is_by t e && is_exit e.kind) r
exit-same q r t alike = happened-own t (λ e. is_exit e.kind) q ∙ (alike-exit (own t q) (own t r) alike ∙ sym (happened-own t (λ e. is_exit e.kind) r))

pub times-same : (q r : List Event) (t : ℕ) (test : Event → Bool) → own t q ≡ own t r → times (λ e. is_by t e && test e) q ≡ times (λ e. is_by t e && test e) r
times-same q r t test same = times-own t test q ∙ (ap (times test) same ∙ sym (times-own t test r))
