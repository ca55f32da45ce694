-- What is free by the bodies of the threads is free after each log.
use Rattle.std.proofs.Common.{◌≡◌, ◌≢◌, ℕ, List, [], ◌∷◌, ◌++◌, Some, refl, sym, ap, ◌∙◌, subst}
use Rattle.std.specs.Prelude.{IsTrue, IsFalse}
use Rattle.std.proofs.lemmas.List.{append-nil}
use Rattle.std.proofs.lemmas.List.Elements.{filter-append}
use Rattle.std.proofs.lemmas.Bool.{and_right, false_from_ne_true, false≢true, both_ways}
use Rattle.velo_events.specs.declared.config.Bounds.{Bounds}
use Rattle.velo_events.specs.declared.event.Event.{Event}
use Rattle.velo_events.specs.declared.event.Kind.{Kind}
use Rattle.velo_events.specs.declared.event.Kind.TheVariants.{Release, ReleaseShared, Begin, End, Exit}
use Rattle.velo_events.specs.Event.{thread_of, is_by}
use Rattle.velo_events.specs.Heap.{holder_in, shares_in}
use Rattle.velo_events.specs.WellFormed.{IsWellFormed}
use Rattle.velo_movers.specs.Programs.{own}
use Rattle.velo_movers.specs.Free.{are_rivals, are_twins, is_private, HaveBoth, BothAlone, FirstAlone, SecondAlone, IsFree, IsFreeNow, IsFreeStatement}
use Rattle.velo_movers.proofs.OnHolders.{holder-by_own, shares-by_own, held-unshared, one_holder}

module _ (bounds : Bounds) (May : ℕ → List Event → Type 0) (log : List Event) (e : Event) where
  -- by what each thread has done in the log
  pub IsFree-now : IsFreeNow May (λ t. own t log) (thread_of e) e.kind → IsFree bounds May log e
  IsFree-now w = record {
    apart = λ more g none other all born may.
        let u = thread_of g in
        let t = thread_of e in
        let done_u : own u (log ++ more) ≡ own u log ++ own u more = filter-append (is_by u) log more in
        let done_t : own t (log ++ more) ≡ own t log = filter-append (is_by t) log more ∙ (ap (λ es. own t log ++ es) none ∙ append-nil (own t log)) in
        let may_u : May u ((own u log ++ own u more) ++ g ∷ []) = subst (λ es. May u (es ++ g ∷ [])) done_u may in (
          -- both threads would hold the lock that guards
          false_from_ne_true _ (λ rivals.
              let v = w.guarded (own u more) g other may_u rivals in both v.0 more u done_u done_t all.well other v.1),
          w.single (own u more) g other may_u,
        );
  }
    where
      both : (m : ℕ) (more : List Event) (u : ℕ) → own u (log ++ more) ≡ own u log ++ own u more → own (thread_of e) (log ++ more) ≡ own (thread_of e) log → IsWellFormed bounds (log ++ more) → u ≢ thread_of e → HaveBoth (own (thread_of e) log) (thread_of e) (own u log ++ own u more) u m → ⊥
      both m more u done_u done_t well other have = case have
        where
          alone : (s : ℕ) (events : List Event) → own s (log ++ more) ≡ events → holder_in events m ≡ Some s → holder_in (log ++ more) m ≡ Some s
          alone s events done h = holder-by_own bounds s m (log ++ more) well (ap (λ es. holder_in es m) done ∙ h)

          shared : (s : ℕ) (events : List Event) → own s (log ++ more) ≡ events → IsTrue (shares_in events m s) → IsTrue (shares_in (log ++ more) m s)
          shared s events done h = sym (shares-by_own bounds s m (log ++ more) well) ∙ (ap (λ es. shares_in es m s) done ∙ h)

          case : HaveBoth (own (thread_of e) log) (thread_of e) (own u log ++ own u more) u m → ⊥
          case (BothAlone mine theirs) = other (one_holder (holder_in (log ++ more) m) u (thread_of e) (alone u _ done_u theirs) (alone (thread_of e) _ done_t mine))
          case (FirstAlone mine theirs) = both_ways _ (held-unshared bounds m (log ++ more) well (thread_of e) (alone (thread_of e) _ done_t mine) u) (shared u _ done_u theirs)
          case (SecondAlone mine theirs) = both_ways _ (held-unshared bounds m (log ++ more) well u (alone u _ done_u theirs) (thread_of e)) (shared (thread_of e) _ done_t mine)

  -- or by its statement
  pub IsFree-statement : IsFreeStatement May (own (thread_of e) log) (thread_of e) e.kind → IsFree bounds May log e
  IsFree-statement w = IsFree-now (record {
    guarded = λ more g other may rivals. w.guarded (own (thread_of g) log ++ more) g other may rivals;
    single = λ more g other may. w.single (own (thread_of g) log ++ more) g other may;
  })

-- begins, ends, releases and exits have no rivals and no twins
pub private-no_rivals : (k l : Kind) → IsTrue (is_private k) → IsFalse (are_rivals k l)
private-no_rivals (Begin x) l h = refl
private-no_rivals End l h = refl
private-no_rivals (Release m) l h = and_right _ _ refl
private-no_rivals (ReleaseShared m) l h = and_right _ _ refl
private-no_rivals Exit l h = refl
private-no_rivals _ l h = absurd (false≢true h)

pub private-no_twins : (k l : Kind) → IsTrue (is_private k) → IsFalse (are_twins k l)
private-no_twins (Begin x) l h = refl
private-no_twins End l h = refl
private-no_twins (Release m) l h = refl
private-no_twins (ReleaseShared m) l h = refl
private-no_twins Exit l h = refl
private-no_twins _ l h = absurd (false≢true h)
