-- Which event of the log an event is, and how far its thread has come there.
use Rattle.std.proofs.Common.{◌≡◌, ◌≢◌, ℕ, ◌+◌, ◌<◌, ◌≤◌, Bool, true, false, List, [], ◌∷◌, ◌++◌, length, take, drop, set, replicate, get_or, Option, Some, None, refl, sym, ap, ◌∙◌, subst, arith, length-append, ⊎_elim}
use Rattle.std.specs.Prelude.{slice_get, IsTrue, IsFalse, MatchOption}
use Rattle.std.proofs.Math.Seq.{take-append_seam}
use Rattle.std.proofs.lemmas.Bool.{both_ways, cases_eq, cases_lt, eq-eqb, ne_eqb, false≢true}
use Rattle.std.proofs.lemmas.List.{append_assoc, drop_all, length-replicate, length-set, take-append-le}
use Rattle.std.proofs.lemmas.Option.{none-some, slice_get-get_or, slice_get_within, same_Some}
use Rattle.velo_events.specs.declared.event.Event.{Event}
use Rattle.velo_events.specs.Event.{thread_of}
use Rattle.velo_events.specs.Meaning.{action_of}
use Rattle.velo_events.proofs.OnLists.{slice_get-set_same, slice_get-set_other, slice_get-replicate}
use Rattle.velo_events.proofs.OnTraces.{slice_get-append, slice_get-push}
use Rattle.velo_movers.specs.Programs.{own}
use Rattle.velo_movers.proofs.OnHolders.{own-push_yes, own-push_no}
use Rattle.velo_predict.specs.Predictions.{HasTurned}
use Rattle.velo_predict.specs.Sources.{AreSources, AreTrails, IsSource, IsTrail, TellsSource}
use Rattle.velo_predict.specs.declared.sources.Trail.{Trail}
use Rattle.velo_predict.proofs.OnCourses.{own-drop_yes, same_event}
use Rattle.velo_predict.proofs.OnDifferences.{along_at, same_past_at}
use Rattle.velo_predict.proofs.OnPredictions.{next_same, no_next, HasTurned-by, HasTurned-longer}

-- what the thread did after the trace up to a position that is the source of its next event, it began with in the log
source_along : (log trace : List Event) (e : Event) (at : ℕ) (s : IsSource log trace e at) → own (thread_of e) log ≡ own (thread_of e) trace ++ s.recorded ∷ own (thread_of e) (drop (at + 1) log)
source_along log trace e at s = along_at log (thread_of e) at s.recorded (own (thread_of e) trace) s.there s.by s.same_past

-- ---- one thread

module _ (log trace : List Event) (e : Event) (trail : Trail) (stands : IsTrail log trace (thread_of e) trail) where
  pub none_lost : IsTrue trail.is_lost → (at : ℕ) → ¬ IsSource log trace e at
  none_lost lost at s = stands.lost lost (s.recorded ∷ own (thread_of e) (drop (at + 1) log), source_along log trace e at s)

  pub lost_after : IsTrue trail.is_lost → IsTrail log (trace ++ e ∷ []) (thread_of e) (record trail { is_lost = true })
  lost_after lost = record {
    within = stands.within;
    along = λ sure. absurd (false≢true (sym sure));
    lost = λ h. HasTurned-longer log trace (e ∷ []) (thread_of e) (stands.lost lost);
  }

  -- the log has no more of the thread
  module _ (at : ℕ) (sure : IsFalse trail.is_lost) (passed : own (thread_of e) (drop trail.place log) ≡ own (thread_of e) (drop at log)) (over : length log ≤ at) where
    all_done : own (thread_of e) log ≡ own (thread_of e) trace ++ []
    all_done = stands.along sure ∙ ap (λ es. own (thread_of e) trace ++ es) (passed ∙ ap (own (thread_of e)) (drop_all at log over))

    pub none_over : (q : ℕ) → ¬ IsSource log trace e q
    none_over q s = no_next (own (thread_of e) trace) s.recorded (own (thread_of e) (drop (q + 1) log)) (sym all_done ∙ source_along log trace e q s)

    pub over_after : IsTrail log (trace ++ e ∷ []) (thread_of e) (record trail { is_lost = true })
    over_after = record {
      within = stands.within;
      along = λ no_more. absurd (false≢true (sym no_more));
      lost = λ h b.
          let t = thread_of e in
          let longer = own-push_yes t trace e (eq-eqb t t refl) in
          no_next (own t trace) e b.0 (sym all_done ∙ (b.1 ∙ (ap (λ es. es ++ b.0) longer ∙ append_assoc (own t trace) (e ∷ []) b.0)));
    }

  -- this is its next event there
  module _ (at : ℕ) (next : Event) (sure : IsFalse trail.is_lost) (passed : own (thread_of e) (drop trail.place log) ≡ own (thread_of e) (drop at log)) (here : slice_get log at ≡ Some next) (by : thread_of next ≡ thread_of e) where
    along_next : own (thread_of e) log ≡ own (thread_of e) trace ++ next ∷ own (thread_of e) (drop (at + 1) log)
    along_next = stands.along sure ∙ ap (λ es. own (thread_of e) trace ++ es) (passed ∙ own-drop_yes log (thread_of e) at next here by)

    pub source_next : (source : Option ℕ) → MatchOption source (action_of e.kind ≢ action_of next.kind) (λ p. (p ≡ at) × (action_of e.kind ≡ action_of next.kind)) → TellsSource log trace e source
    source_next None other = λ q s.
        let same : s.recorded ≡ next = next_same (own (thread_of e) trace) s.recorded next (own (thread_of e) (drop (q + 1) log)) (own (thread_of e) (drop (at + 1) log)) (sym (source_along log trace e q s) ∙ along_next) in
        other (s.same_action ∙ ap (λ f. action_of f.kind) same)
    source_next (Some p) same = subst (IsSource log trace e) (sym same.0) (record {
      recorded = next;
      there = here;
      by = by;
      same_past = same_past_at log trace (thread_of e) trail.place at (stands.along sure) passed;
      same_action = same.1;
    })

    pub next_after : (is_lost : Bool) → (IsTrue is_lost → e.kind ≢ next.kind) → (IsFalse is_lost → e.kind ≡ next.kind) → IsTrail log (trace ++ e ∷ []) (thread_of e) (record { place = at + 1; is_lost = is_lost })
    next_after is_lost differs agrees =
        let t = thread_of e in
        let rest = own t (drop (at + 1) log) in
        record {
          within = omega (arith, slice_get_within log at next here);
          along = λ h.
              let same : next ≡ e = same_event next e by (sym (agrees h)) in
              along_next ∙ (ap (λ f. own t trace ++ f ∷ rest) same ∙ (sym (append_assoc (own t trace) (e ∷ []) rest) ∙ ap (λ es. es ++ rest) (sym (own-push_yes t trace e (eq-eqb t t refl)))));
          lost = λ h. HasTurned-by log trace e next rest along_next (differs h);
        }

-- ---- all threads

other_after : (log trace : List Event) (e : Event) (t : ℕ) (trail : Trail) → thread_of e ≢ t → IsTrail log trace t trail → IsTrail log (trace ++ e ∷ []) t trail
other_after log trace e t trail other stands = record {
  within = stands.within;
  along = λ sure. stands.along sure ∙ ap (λ es. es ++ own t (drop trail.place log)) (sym (own-push_no t trace e (ne_eqb (thread_of e) t other)));
  lost = λ h. HasTurned-longer log trace (e ∷ []) t (stands.lost h);
}

-- the trail of the event's thread
pub trail_at : (log trace : List Event) (trails : List Trail) (place : ℕ) (e : Event) → AreTrails log trace trails → place ≡ thread_of e → place < 256 → (none : Trail) → IsTrail log trace (thread_of e) (get_or trails place none)
trail_at log trace trails place e are is known none =
    subst (λ t. IsTrail log trace t (get_or trails place none)) is (are.each place (get_or trails place none) (slice_get-get_or trails place none (omega (arith, known, are.as_many))))

pub trails_after : (log trace : List Event) (e : Event) (trails after : List Trail) (new : Trail) (place : ℕ) → AreTrails log trace trails → place ≡ thread_of e → place < 256 → IsTrail log (trace ++ e ∷ []) (thread_of e) new
    → after ≡ set trails place new → AreTrails log (trace ++ e ∷ []) after
trails_after log trace e trails after new place are is known fresh set_there = record {
  as_many = ap length set_there ∙ (length-set trails place new ∙ are.as_many);
  each = λ t trail at. one t trail (ap (λ ts. slice_get ts t) set_is ∙ at);
}
  where
    set_is : set trails (thread_of e) new ≡ after
    set_is = ap (λ t. set trails t new) (sym is) ∙ sym set_there

    within : thread_of e < length trails
    within = omega (arith, known, is, are.as_many)

    one : (t : ℕ) (trail : Trail) → slice_get (set trails (thread_of e) new) t ≡ Some trail → IsTrail log (trace ++ e ∷ []) t trail
    one t trail at = ⊎_elim
        (λ its.
        let same : new ≡ trail = same_Some new trail (sym (slice_get-set_same trails (thread_of e) new within) ∙ subst (λ n. slice_get (set trails (thread_of e) new) n ≡ Some trail) (sym its) at) in
        subst (λ n. IsTrail log (trace ++ e ∷ []) n trail) its (subst (IsTrail log (trace ++ e ∷ []) (thread_of e)) same fresh))
        (λ other. other_after log trace e t trail other (are.each t trail (sym (slice_get-set_other trails (thread_of e) t new other) ∙ at)))
        (cases_eq (thread_of e) t)

pub AreTrails-nil : (log : List Event) (trails : List Trail) → trails ≡ replicate 256 (record { place = 0; is_lost = false }) → AreTrails log [] trails
AreTrails-nil log trails is =
    let start : Trail = record { place = 0; is_lost = false } in
    record {
      as_many = ap length is ∙ length-replicate 256 start;
      each = λ t trail at.
          let here : slice_get (replicate 256 start) t ≡ Some trail = ap (λ ts. slice_get ts t) (sym is) ∙ at in
          let within : t < 256 = omega (arith, slice_get_within (replicate 256 start) t trail here, length-replicate 256 start) in
          subst (IsTrail log [] t) (same_Some start trail (sym (slice_get-replicate 256 t start within) ∙ here))
          (record { within = omega arith; along = λ sure. refl; lost = λ h. absurd (false≢true h) });
    }

-- ---- the sources

pub AreSources-nil : (log : List Event) (sources : List (Option ℕ)) → sources ≡ [] → AreSources log [] sources
AreSources-nil log sources none = record { as_many = ap length none; each = λ i e source at. absurd (none-some e at) }

pub AreSources-push : (log trace : List Event) (sources : List (Option ℕ)) (e : Event) (source : Option ℕ) → AreSources log trace sources → TellsSource log trace e source → AreSources log (trace ++ e ∷ []) (sources ++ source ∷ [])
AreSources-push log trace sources e source are tells = record {
  as_many = length-append sources (source ∷ []) ∙ (ap (λ n. n + 1) are.as_many ∙ sym (length-append trace (e ∷ [])));
  each = λ i f from at told. ⊎_elim
      (λ below.
      subst (λ es. TellsSource log es f from) (sym (take-append-le i trace (e ∷ []) (omega (arith, below))))
      (are.each i f from (sym (slice_get-append trace (e ∷ []) i below) ∙ at) (sym (slice_get-append sources (source ∷ []) i (omega (arith, below, are.as_many))) ∙ told)))
      (λ above.
      let last : length trace ≡ i = omega (arith, above, slice_get_within (trace ++ e ∷ []) i f at, length-append trace (e ∷ [])) in
      let there : length sources ≡ i = are.as_many ∙ last in
      let same : e ≡ f = same_Some e f (sym (slice_get-push trace e) ∙ subst (λ k. slice_get (trace ++ e ∷ []) k ≡ Some f) (sym last) at) in
      let both : source ≡ from = same_Some source from (sym (slice_get-push sources source) ∙ subst (λ k. slice_get (sources ++ source ∷ []) k ≡ Some from) (sym there) told) in
      subst (λ k. TellsSource log (take k (trace ++ e ∷ [])) f from) last
      (subst (λ es. TellsSource log es f from) (sym (take-append_seam trace (e ∷ [])))
      (subst (λ g. TellsSource log trace g from) same (subst (TellsSource log trace e) both tells))))
      (cases_lt i (length trace));
}
