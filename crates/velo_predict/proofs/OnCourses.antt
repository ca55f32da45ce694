-- What a judge knows of a trace, after one more event.
use Rattle.std.proofs.Common.{◌≡◌, ◌≢◌, ℕ, ◌+◌, ◌<◌, ◌≤◌, Bool, true, false, cond, List, [], ◌∷◌, ◌++◌, length, take, drop, set, replicate, Some, refl, sym, ap, ◌∙◌, subst, arith, length-append, ⊎_elim, inl, inr}
use Rattle.std.specs.Prelude.{◌⊎◌, ◌||◌, slice_get, IsTrue, IsFalse}
use Rattle.std.proofs.Math.Seq.{take-append_seam}
use Rattle.std.proofs.lemmas.Bool.{cases_eq, cases_lt, or_cases, or_parts, eq-eqb, ne_eqb, both_ways, false≢true}
use Rattle.std.proofs.lemmas.List.{append_assoc, drop_all, drop_more, length-replicate, take-append-le}
use Rattle.std.proofs.lemmas.Option.{none-some, slice_get_within, same_Some, get_or_from_slice_get}
use Rattle.velo_events.specs.declared.config.Bounds.{Bounds}
use Rattle.velo_events.specs.declared.event.Event.{Event}
use Rattle.velo_events.specs.declared.event.Kind.{Kind}
use Rattle.velo_events.specs.declared.event.ThreadId.{ThreadId}
use Rattle.velo_events.specs.Event.{thread_of, is_read}
use Rattle.velo_events.specs.Meaning.{action_of}
use Rattle.velo_events.specs.WellFormed.{MayFollow, IsWellFormed}
use Rattle.velo_events.proofs.OnLists.{slice_get-set_same, slice_get-set_other, slice_get-replicate}
use Rattle.velo_events.proofs.OnTraces.{slice_get-append, slice_get-push}
use Rattle.velo_events.proofs.OnWellFormed.{IsWellFormed-push}
use Rattle.velo_movers.specs.Free.{gives_up}
use Rattle.velo_movers.specs.Programs.{own}
use Rattle.velo_movers.proofs.OnHolders.{own-push_yes, own-push_no}
use Rattle.velo_predict.specs.Courses.{IsCourse, TellsLoose}
use Rattle.velo_predict.specs.Predictions.{IsUnsure, IsNextOf, IsForetold, IsPrediction}
use Rattle.velo_predict.specs.Predictions.IsForetold.{Known, Unknown}
use Rattle.velo_predict.specs.declared.judge.Course.{Course}
use Rattle.velo_predict.proofs.OnPredictions.{next_same, no_next, IsLoose-longer, IsLoose-push, IsLoose-last, HasReadBehind-push, HasReadBehind-last, IsUnsure-longer, not_turned, HasTurned-by}

-- ---- the own events from a position on

here_at : (log : List Event) (n : ℕ) (e : Event) → slice_get log n ≡ Some e → drop n log ≡ e ∷ drop (n + 1) log
here_at log n e at =
    drop_more log n e (slice_get_within log n e at) ∙ ap (λ f. f ∷ drop (n + 1) log) (get_or_from_slice_get log n e e at)

pub own-drop_yes : (log : List Event) (t n : ℕ) (e : Event) → slice_get log n ≡ Some e → thread_of e ≡ t → own t (drop n log) ≡ e ∷ own t (drop (n + 1) log)
own-drop_yes log t n e at by =
    ap (own t) (here_at log n e at) ∙ ap (λ b. cond b (e ∷ own t (drop (n + 1) log)) (own t (drop (n + 1) log))) (eq-eqb (thread_of e) t by)

-- ---- events by their thread and kind

event_of : ThreadId → Kind → Event
event_of t k = record { thread = t; kind = k }

thread_same : (s t : ThreadId) → s.0 ≡ t.0 → s ≡ t
thread_same s t h = ap (λ n. let u : ThreadId = record { 0 = n } in u) h

pub same_event : (f g : Event) → thread_of f ≡ thread_of g → f.kind ≡ g.kind → f ≡ g
unfolding event_of
same_event f g threads kinds = ap (λ u. event_of u f.kind) (thread_same f.thread g.thread threads) ∙ ap (event_of g.thread) kinds

-- ---- one thread

module _ (log trace : List Event) (e : Event) (course : Course) (stands : IsCourse log trace (thread_of e) course) where
  -- the next event of the log, for a thread that is sure
  pub next_event : (at : ℕ) (next : Event) → IsFalse course.is_unsure → own (thread_of e) (drop course.place log) ≡ own (thread_of e) (drop at log) → slice_get log at ≡ Some next → thread_of next ≡ thread_of e → IsNextOf log trace (thread_of e) next
  next_event at next sure passed here by = record {
    sure = stands.not_behind sure;
    rest = own (thread_of e) (drop (at + 1) log);
    along = stands.along sure ∙ ap (λ es. own (thread_of e) trace ++ es) (passed ∙ own-drop_yes log (thread_of e) at next here by);
  }

  -- it is the only one
  pub only_next : (next other : Event) → IsNextOf log trace (thread_of e) next → IsNextOf log trace (thread_of e) other → next ≡ other
  only_next next other a b = next_same (own (thread_of e) trace) next other a.rest b.rest (sym a.along ∙ b.along)

  -- a thread that is sure is not unsure
  sure_is_not : IsFalse course.is_unsure → IsUnsure log trace (thread_of e) → ⊥
  sure_is_not sure unsure = ⊎_elim (λ turned. not_turned log trace (thread_of e) (own (thread_of e) (drop course.place log)) (stands.along sure) turned) (λ behind. stands.not_behind sure behind) unsure

  -- a thread of whose events none is left has done what it did in the log
  pub nothing_next : (at : ℕ) → IsFalse course.is_unsure → own (thread_of e) (drop course.place log) ≡ own (thread_of e) (drop at log) → length log ≤ at → own (thread_of e) log ≡ own (thread_of e) trace ++ []
  nothing_next at sure passed over = stands.along sure ∙ ap (λ es. own (thread_of e) trace ++ es) (passed ∙ ap (own (thread_of e)) (drop_all at log over))

  -- nothing is foretold where the log has no more
  pub none_foretold : (at : ℕ) → IsFalse course.is_unsure → own (thread_of e) (drop course.place log) ≡ own (thread_of e) (drop at log) → length log ≤ at → ¬ IsForetold log trace e
  none_foretold at sure passed over (Known next n same) = no_next (own (thread_of e) trace) next n.rest (sym (nothing_next at sure passed over) ∙ n.along)
  none_foretold at sure passed over (Unknown unsure release) = sure_is_not sure unsure

  -- another action than the next is not foretold
  pub other_foretold : (next : Event) → IsFalse course.is_unsure → IsNextOf log trace (thread_of e) next → (action_of e.kind ≡ action_of next.kind → ⊥) → ¬ IsForetold log trace e
  other_foretold next sure its other (Known due n same) = other (same ∙ ap (λ f. action_of f.kind) (only_next due next n its))
  other_foretold next sure its other (Unknown unsure release) = sure_is_not sure unsure

  -- an unsure thread only gives up locks
  pub unsure_foretold : IsTrue course.is_unsure → IsForetold log trace e → IsTrue (gives_up e.kind)
  unsure_foretold unsure (Known due n same) =
      absurd (⊎_elim (λ turned. not_turned log trace (thread_of e) (due ∷ n.rest) n.along turned) (λ behind. n.sure behind) (stands.unsure unsure))
  unsure_foretold unsure (Unknown h release) = release

  pub unsure_after : IsTrue course.is_unsure → IsCourse log (trace ++ e ∷ []) (thread_of e) course
  unsure_after unsure = record {
    within = stands.within;
    not_behind = λ sure. absurd (both_ways course.is_unsure sure unsure);
    along = λ sure. absurd (both_ways course.is_unsure sure unsure);
    unsure = λ h. IsUnsure-longer log trace (e ∷ []) (thread_of e) (stands.unsure unsure);
  }

  -- how far the thread is after its next event
  pub sure_after : (at : ℕ) (next : Event) (is_loose unknown : Bool) → TellsLoose log trace is_loose → IsFalse course.is_unsure → own (thread_of e) (drop course.place log) ≡ own (thread_of e) (drop at log) → slice_get log at ≡ Some next → thread_of next ≡ thread_of e →
      (IsTrue unknown → (e.kind ≢ next.kind) ⊎ (IsTrue is_loose × IsTrue (is_read e.kind))) → (IsFalse unknown → (e.kind ≡ next.kind) × (IsTrue is_loose → IsFalse (is_read e.kind))) →
      IsCourse log (trace ++ e ∷ []) (thread_of e) (record { place = at + 1; is_unsure = unknown })
  unfolding next_event
  sure_after at next is_loose unknown tells sure passed here by differs agrees =
      let t = thread_of e in
      let its = next_event at next sure passed here by in
      record {
        within = omega (arith, slice_get_within log at next here);
        not_behind = λ known h. ⊎_elim (λ before. its.sure before)
            (λ w. ⊎_elim (λ no. tells.none no w.2.0 w.2.1) (λ yes. both_ways (is_read e.kind) ((agrees known).1 yes) w.1) (cases_loose is_loose))
            (HasReadBehind-push log trace e t h);
        along = λ known.
            let same : next ≡ e = same_event next e by (sym (agrees known).0) in
            its.along ∙ (ap (λ f. own t trace ++ f ∷ its.rest) same ∙ (sym (append_assoc (own t trace) (e ∷ []) its.rest) ∙ ap (λ es. es ++ its.rest) (sym (own-push_yes t trace e (eq-eqb t t refl)))));
        unsure = λ h. ⊎_elim
            (λ other. inl (HasTurned-by log trace e next its.rest its.along other))
            (λ w. let loose = tells.some w.0 in inr (HasReadBehind-last log trace e loose.0 loose.1 w.1))
            (differs h);
      }
    where
      cases_loose : (b : Bool) → IsFalse b ⊎ IsTrue b
      cases_loose true = inr refl
      cases_loose false = inl refl

-- ---- the other threads

pub other_after : (log trace : List Event) (e : Event) (t : ℕ) (course : Course) → thread_of e ≢ t → IsCourse log trace t course → IsCourse log (trace ++ e ∷ []) t course
other_after log trace e t course other stands = record {
  within = stands.within;
  not_behind = λ sure h. ⊎_elim (λ before. stands.not_behind sure before) (λ w. other w.0) (HasReadBehind-push log trace e t h);
  along = λ sure. stands.along sure ∙ ap (λ es. es ++ own t (drop course.place log)) (sym (own-push_no t trace e (ne_eqb (thread_of e) t other)));
  unsure = λ h. IsUnsure-longer log trace (e ∷ []) t (stands.unsure h);
}

pub courses_after : (log trace : List Event) (e : Event) (courses : List Course) (new : Course) →
    ((t : ℕ) (course : Course) → slice_get courses t ≡ Some course → IsCourse log trace t course) → thread_of e < length courses → IsCourse log (trace ++ e ∷ []) (thread_of e) new →
    (t : ℕ) (course : Course) → slice_get (set courses (thread_of e) new) t ≡ Some course → IsCourse log (trace ++ e ∷ []) t course
courses_after log trace e courses new each within fresh t course at =
    ⊎_elim
    (λ its.
    let same : new ≡ course = same_Some new course (sym (slice_get-set_same courses (thread_of e) new within) ∙ subst (λ n. slice_get (set courses (thread_of e) new) n ≡ Some course) (sym its) at) in
    subst (λ n. IsCourse log (trace ++ e ∷ []) n course) its (subst (λ c. IsCourse log (trace ++ e ∷ []) (thread_of e) c) same fresh))
    (λ other. other_after log trace e t course other (each t course (sym (slice_get-set_other courses (thread_of e) t new other) ∙ at)))
    (cases_eq (thread_of e) t)

-- ---- loose releases

pub loose_after : (log trace : List Event) (e : Event) (course : Course) (is_loose : Bool) → TellsLoose log trace is_loose → IsCourse log trace (thread_of e) course → (IsTrue course.is_unsure → IsTrue (gives_up e.kind)) → TellsLoose log (trace ++ e ∷ []) (is_loose || course.is_unsure)
loose_after log trace e course is_loose tells stands release = record {
  some = λ h. ⊎_elim
      (λ was. let w = tells.some was in (w.0, IsLoose-longer log trace (e ∷ []) w.0 w.1))
      (λ unsure. ⊎_elim
      (λ turned. (length trace, IsLoose-last log trace e (release unsure) turned))
      (λ behind. (behind.release, IsLoose-longer log trace (e ∷ []) behind.release behind.loose))
      (stands.unsure unsure))
      (or_cases is_loose course.is_unsure h);
  none = λ h i l. let parts = or_parts is_loose course.is_unsure h in
      ⊎_elim (λ before. tells.none parts.0 i before) (λ w. not_turned log trace (thread_of e) (own (thread_of e) (drop course.place log)) (stands.along parts.1) w.1) (IsLoose-push log trace e i l);
}

-- ---- the prediction

pub IsPrediction-nil : (bounds : Bounds) (log : List Event) → IsWellFormed bounds [] → IsPrediction bounds log []
IsPrediction-nil bounds log well = record { well_formed = well; each = λ i e at. absurd (omega (arith, slice_get_within {A = Event} [] i e at)) }

pub IsPrediction-push : (bounds : Bounds) (log trace : List Event) (e : Event) → IsPrediction bounds log trace → MayFollow bounds trace e → IsForetold log trace e → IsPrediction bounds log (trace ++ e ∷ [])
IsPrediction-push bounds log trace e before follows foretold = record {
  well_formed = IsWellFormed-push bounds trace e before.well_formed follows;
  each = λ i f at. ⊎_elim
      (λ below. subst (λ es. IsForetold log es f) (sym (take-append-le i trace (e ∷ []) (omega (arith, below)))) (before.each i f (sym (slice_get-append trace (e ∷ []) i below) ∙ at)))
      (λ above.
      let last : length trace ≡ i = omega (arith, above, slice_get_within (trace ++ e ∷ []) i f at, length-append trace (e ∷ [])) in
      let same : e ≡ f = same_Some e f (sym (slice_get-push trace e) ∙ subst (λ k. slice_get (trace ++ e ∷ []) k ≡ Some f) (sym last) at) in
      subst (λ k. IsForetold log (take k (trace ++ e ∷ [])) f) last
      (subst (λ es. IsForetold log es f) (sym (take-append_seam trace (e ∷ []))) (subst (IsForetold log trace) same foretold)))
      (cases_lt i (length trace));
}

-- ---- the start

pub IsCourse-start : (log : List Event) (t : ℕ) → IsCourse log [] t (record { place = 0; is_unsure = false })
IsCourse-start log t = record {
  within = omega arith;
  not_behind = λ sure h. none-some h.event h.here;
  along = λ sure. refl;
  unsure = λ h. absurd (false≢true h);
}

pub TellsLoose-start : (log : List Event) → TellsLoose log [] false
TellsLoose-start log = record { some = λ h. absurd (false≢true h); none = λ h i l. none-some l.event l.here }

pub courses_start : (log : List Event) (n : ℕ) (t : ℕ) (course : Course) → slice_get (replicate n (record { place = 0; is_unsure = false })) t ≡ Some course → IsCourse log [] t course
courses_start log n t course at =
    let start : Course = record { place = 0; is_unsure = false } in
    let within : t < n = omega (arith, slice_get_within (replicate n start) t course at, length-replicate n start) in
    subst (λ c. IsCourse log [] t c) (same_Some start course (sym (slice_get-replicate n t start within) ∙ at)) (IsCourse-start log t)
