-- The reads that get another value than in the log, one event later.
use Rattle.std.proofs.Common.{◌≡◌, ◌≢◌, ℕ, ◌+◌, ◌<◌, Bool, true, false, List, [], ◌∷◌, ◌++◌, length, map, take, drop, get_or, Option, Some, None, refl, sym, ap, ◌∙◌, subst, arith, length-append, ⊎_elim, inl, inr}
use Rattle.std.specs.Prelude.{◌⊎◌, slice_get, slice_index, Contains, IsTrue, IsFalse, MatchOption}
use Rattle.std.specs.List.Sorted.{IsStrictlyIncreasing}
use Rattle.std.proofs.Math.Seq.{take-append_seam}
use Rattle.std.proofs.lemmas.Bool.{both_ways, cases_lt, false≢true}
use Rattle.std.proofs.lemmas.Grind.{common_steps}
use Rattle.std.proofs.lemmas.List.{append-nil, append_cancel_right, map-append, take-append-drop, take-append-le}
use Rattle.std.proofs.lemmas.List.Elements.{Contains-append_left, Contains-push, Contains-append_cases, filter-append}
use Rattle.std.proofs.lemmas.Option.{none-some, slice_get_within, same_Some}
use Rattle.velo_events.specs.declared.event.Action.{Action}
use Rattle.velo_events.specs.declared.event.Event.{Event}
use Rattle.velo_events.specs.declared.event.Kind.{Kind}
use Rattle.velo_events.specs.declared.event.Kind.TheVariants.{Read, Write, Acquire, Release, AcquireShared, ReleaseShared, Begin, End, Fork, Join, Exit}
use Rattle.velo_events.specs.Event.{thread_of, is_by, is_read}
use Rattle.velo_events.specs.Meaning.{action_of, kind_for}
use Rattle.velo_events.proofs.OnScans.{take-take_le}
use Rattle.velo_events.proofs.OnTraces.{slice_get-append, slice_get-push, slice_get-take}
use Rattle.velo_movers.specs.Free.{gives_up}
use Rattle.velo_movers.specs.Programs.{own}
use Rattle.velo_predict.specs.Courses.{IsCourse}
use Rattle.velo_predict.specs.Differences.{DiffersFrom, IsDifference, AreDifferences, TellsDifference, difference_at}
use Rattle.velo_predict.specs.Predictions.{IsNextOf}
use Rattle.velo_predict.specs.declared.difference.Difference.{Difference}
use Rattle.velo_predict.specs.declared.judge.Course.{Course}
use Rattle.velo_predict.proofs.OnCourses.{own-drop_yes}
use Rattle.velo_predict.proofs.OnPredictions.{next_same, no_next}

-- ---- kinds of one action

abbrev pub action_reads : Action → Bool
action_reads (Action.Read x) = true
action_reads _ = false

pub reads_by_action : (k : Kind) → is_read k ≡ action_reads (action_of k)
reads_by_action (Read x v) = refl
reads_by_action (Write x v) = refl
reads_by_action (Acquire m) = refl
reads_by_action (Release m) = refl
reads_by_action (AcquireShared m) = refl
reads_by_action (ReleaseShared m) = refl
reads_by_action (Begin l) = refl
reads_by_action End = refl
reads_by_action (Fork u) = refl
reads_by_action (Join u) = refl
reads_by_action Exit = refl

pub kind_by_action : (k : Kind) → IsFalse (is_read k) → kind_for [] (action_of k) ≡ k
kind_by_action (Read x v) other = absurd (false≢true (sym other))
kind_by_action (Write x v) other = refl
kind_by_action (Acquire m) other = refl
kind_by_action (Release m) other = refl
kind_by_action (AcquireShared m) other = refl
kind_by_action (ReleaseShared m) other = refl
kind_by_action (Begin l) other = refl
kind_by_action End other = refl
kind_by_action (Fork u) other = refl
kind_by_action (Join u) other = refl
kind_by_action Exit other = refl

-- the kind of an action that is no read
pub kind_from_action : (k : Kind) (action : Action) → action_of k ≡ action → IsFalse (action_reads action) → k ≡ kind_for [] action
kind_from_action k action same other = sym (kind_by_action k (reads_by_action k ∙ (ap action_reads same ∙ other))) ∙ ap (kind_for []) same

-- what differs in one action is a read
pub differing-is_read : (k l : Kind) → action_of k ≡ action_of l → k ≢ l → IsTrue (is_read k)
differing-is_read k l same differ = decide (is_read k) refl
  where
    decide : (b : Bool) → is_read k ≡ b → IsTrue (is_read k)
    decide true is = is
    decide false is =
        let other : IsFalse (is_read l) = reads_by_action l ∙ (ap action_reads (sym same) ∙ (sym (reads_by_action k) ∙ is)) in
        absurd (differ (sym (kind_by_action k is) ∙ (ap (kind_for []) same ∙ kind_by_action l other)))

-- what gives up a lock reads nothing
pub gives_up-no_read : (k : Kind) → IsTrue (gives_up k) → IsFalse (is_read k)
gives_up-no_read (Read x v) h = absurd (false≢true h)
gives_up-no_read (Write x v) h = refl
gives_up-no_read (Acquire m) h = refl
gives_up-no_read (Release m) h = refl
gives_up-no_read (AcquireShared m) h = refl
gives_up-no_read (ReleaseShared m) h = refl
gives_up-no_read (Begin l) h = refl
gives_up-no_read End h = refl
gives_up-no_read (Fork u) h = refl
gives_up-no_read (Join u) h = refl
gives_up-no_read Exit h = refl

-- ---- the own events up to and from a position

own-halves : (log : List Event) (t at : ℕ) → own t log ≡ own t (take at log) ++ own t (drop at log)
own-halves log t at = ap (own t) (sym (take-append-drop at log)) ∙ filter-append (is_by t) (take at log) (drop at log)

-- with an event of the thread between them, two places have not the same own events before
own-split : (log : List Event) (t a b : ℕ) (e : Event) → a < b → slice_get log a ≡ Some e → thread_of e ≡ t → own t (take b log) ≡ own t (take a log) ++ e ∷ own t (drop (a + 1) (take b log))
own-split log t a b e below at by =
    own-halves (take b log) t a ∙
    (ap (λ es. own t es ++ own t (drop a (take b log))) (take-take_le a b log (omega (arith, below)))
    ∙ ap (λ es. own t (take a log) ++ es) (own-drop_yes (take b log) t a e (slice_get-take log b a below ∙ at) by))

not_both : (log : List Event) (t a b : ℕ) (e : Event) (past : List Event) → a < b → slice_get log a ≡ Some e → thread_of e ≡ t → past ≡ own t (take a log) → past ≡ own t (take b log) → ⊥
not_both log t a b e past below at by here there =
    no_next past e (own t (drop (a + 1) (take b log)))
    (append-nil past ∙ (there ∙ (own-split log t a b e below at by ∙ ap (λ es. es ++ e ∷ own t (drop (a + 1) (take b log))) (sym here))))

-- so there is one place at which a thread's event comes after these events of its own
pub one_place : (log : List Event) (t a b : ℕ) (e f : Event) (past : List Event) → slice_get log a ≡ Some e → thread_of e ≡ t → past ≡ own t (take a log) → slice_get log b ≡ Some f → thread_of f ≡ t → past ≡ own t (take b log) → a ≡ b
one_place log t a b e f past at by here at' by' here' =
    ⊎_elim (λ below. absurd (not_both log t a b e past below at by here here')) (λ above.
    ⊎_elim (λ less. absurd (not_both log t b a f past less at' by' here' here)) (λ more. omega (arith, above, more)) (cases_lt b a))
    (cases_lt a b)

-- the event there is the next of its thread
pub along_at : (log : List Event) (t at : ℕ) (next : Event) (past : List Event) → slice_get log at ≡ Some next → thread_of next ≡ t → past ≡ own t (take at log) → own t log ≡ past ++ next ∷ own t (drop (at + 1) log)
along_at log t at next past here by same =
    own-halves log t at ∙ (ap (λ es. es ++ own t (drop at log)) (sym same) ∙ ap (λ es. past ++ es) (own-drop_yes log t at next here by))

-- what a thread did is what it did in the log up to where it goes on
pub same_past_at : (log trace : List Event) (t place at : ℕ) → own t log ≡ own t trace ++ own t (drop place log) → own t (drop place log) ≡ own t (drop at log) → own t trace ≡ own t (take at log)
same_past_at log trace t place at along passed =
    append_cancel_right (own t trace) (own t (take at log)) (own t (drop at log))
    (ap (λ es. own t trace ++ es) (sym passed) ∙ (sym along ∙ own-halves log t at))

-- ---- the next event

module _ (log trace : List Event) (e : Event) (course : Course) (stands : IsCourse log trace (thread_of e) course) where
  pub differs_at : (at : ℕ) (next : Event) → IsFalse course.is_unsure → own (thread_of e) (drop course.place log) ≡ own (thread_of e) (drop at log) → slice_get log at ≡ Some next → thread_of next ≡ thread_of e → action_of e.kind ≡ action_of next.kind → e.kind ≢ next.kind → DiffersFrom log trace e at
  differs_at at next sure passed here by action differ = record {
    next = next;
    there = here;
    by = by;
    same_past = same_past_at log trace (thread_of e) course.place at (stands.along sure) passed;
    is_read = differing-is_read e.kind next.kind action differ;
    differ = differ;
  }

  pub differs_from_none : (next : Event) → IsNextOf log trace (thread_of e) next → e.kind ≡ next.kind → (at : ℕ) → ¬ DiffersFrom log trace e at
  differs_from_none next its same at d =
      let along = along_at log (thread_of e) at d.next (own (thread_of e) trace) d.there d.by d.same_past in
      let same_event : next ≡ d.next = next_same (own (thread_of e) trace) next d.next its.rest (own (thread_of e) (drop (at + 1) log)) (sym its.along ∙ along) in
      d.differ (same ∙ ap (λ f. f.kind) same_event)

  -- from what the operations say
  pub tells_differ : (at : ℕ) (next : Event) (found : Option ℕ) → IsFalse course.is_unsure → own (thread_of e) (drop course.place log) ≡ own (thread_of e) (drop at log) → slice_get log at ≡ Some next → thread_of next ≡ thread_of e → IsNextOf log trace (thread_of e) next → action_of e.kind ≡ action_of next.kind →
      MatchOption found (e.kind ≡ next.kind) (λ place. (place ≡ at) × (e.kind ≢ next.kind)) → TellsDifference log trace e found
  tells_differ at next None sure passed here by its action same = differs_from_none next its same
  tells_differ at next (Some place) sure passed here by its action other = subst (DiffersFrom log trace e) (sym other.0) (differs_at at next sure passed here by action other.1)

pub release_differs_from_none : (log trace : List Event) (e : Event) → IsTrue (gives_up e.kind) → (at : ℕ) → ¬ DiffersFrom log trace e at
release_differs_from_none log trace e release at d = both_ways (is_read e.kind) (gives_up-no_read e.kind release) d.is_read

-- ---- the list of them

module _ (log : List Event) where
  IsDifference-longer : (trace more : List Event) (d : Difference) → IsDifference log trace d → IsDifference log (trace ++ more) d
  IsDifference-longer trace more d h =
      let within = slice_get_within trace d.position h.read h.here in
      record {
        read = h.read;
        here = slice_get-append trace more d.position within ∙ h.here;
        differs = subst (λ es. DiffersFrom log es h.read d.recorded) (sym (take-append-le d.position trace more (omega (arith, within)))) h.differs;
      }

  IsDifference-last : (trace : List Event) (e : Event) (at : ℕ) → DiffersFrom log trace e at → IsDifference log (trace ++ e ∷ []) (record { position = length trace; recorded = at })
  IsDifference-last trace e at d = record {
    read = e;
    here = slice_get-push trace e;
    differs = subst (λ es. DiffersFrom log es e at) (sym (take-append_seam trace (e ∷ []))) d;
  }

  IsDifference-push : (trace : List Event) (e : Event) (d : Difference) → IsDifference log (trace ++ e ∷ []) d → IsDifference log trace d ⊎ ((length trace ≡ d.position) × DiffersFrom log trace e d.recorded)
  IsDifference-push trace e d h =
      ⊎_elim
      (λ below. inl (record {
        read = h.read;
        here = sym (slice_get-append trace (e ∷ []) d.position below) ∙ h.here;
        differs = subst (λ es. DiffersFrom log es h.read d.recorded) (take-append-le d.position trace (e ∷ []) (omega (arith, below))) h.differs;
      }))
      (λ above.
      let place : length trace ≡ d.position = omega (arith, above, slice_get_within (trace ++ e ∷ []) d.position h.read h.here, length-append trace (e ∷ [])) in
      let same : e ≡ h.read = same_Some e h.read (sym (slice_get-push trace e) ∙ subst (λ k. slice_get (trace ++ e ∷ []) k ≡ Some h.read) (sym place) h.here) in
      let seam : take d.position (trace ++ e ∷ []) ≡ trace = subst (λ k. take k (trace ++ e ∷ []) ≡ trace) place (take-append_seam trace (e ∷ [])) in
      inr (place, subst (λ f. DiffersFrom log trace f d.recorded) (sym same) (subst (λ es. DiffersFrom log es h.read d.recorded) seam h.differs)))
      (cases_lt d.position (length trace))

  pub AreDifferences-nil : AreDifferences log [] []
  AreDifferences-nil = record {
    each = λ d. (λ h. absurd (omega (arith, h.1)), λ h. absurd (none-some h.read h.here));
    rising = λ k within. absurd (omega (arith, within));
  }

  pub AreDifferences-kept : (trace : List Event) (e : Event) (ds : List Difference) → AreDifferences log trace ds → ((at : ℕ) → ¬ DiffersFrom log trace e at) → AreDifferences log (trace ++ e ∷ []) ds
  AreDifferences-kept trace e ds are none = record {
    each = λ d. (
      λ h. IsDifference-longer trace (e ∷ []) d ((are.each d).0 h),
      λ h. ⊎_elim (λ before. (are.each d).1 before) (λ last. absurd (none d.recorded last.1)) (IsDifference-push trace e d h),
    );
    rising = are.rising;
  }

  within_trace : (trace : List Event) (ds : List Difference) → AreDifferences log trace ds → (k : ℕ) → k < length ds → slice_index (map (λ d. d.position) ds) k < length trace
  within_trace trace ds are k within =
      let blank : Difference = record { position = 0; recorded = 0 } in
      let d = get_or ds k blank in
      let is = (are.each d).0 (k, within, grind (arith, common_steps)) in
      let less = slice_get_within trace d.position is.read is.here in
      grind (arith, common_steps)

  rising_push : (xs : List ℕ) (n : ℕ) → IsStrictlyIncreasing xs → ((k : ℕ) → k < length xs → slice_index xs k < n) → IsStrictlyIncreasing (xs ++ n ∷ [])
  rising_push xs n rising below k within =
      ⊎_elim (λ inside. let r = rising k inside in grind (arith, common_steps)) (λ last. let b = below k (omega (arith, within, length-append xs (n ∷ []))) in grind (arith, common_steps)) (cases_lt (k + 1) (length xs))

  pub AreDifferences-more : (trace : List Event) (e : Event) (ds : List Difference) (at : ℕ) → AreDifferences log trace ds → DiffersFrom log trace e at → AreDifferences log (trace ++ e ∷ []) (ds ++ record { position = length trace; recorded = at } ∷ [])
  AreDifferences-more trace e ds at are differs =
      let new : Difference = record { position = length trace; recorded = at } in
      record {
        each = λ d. (
          λ h. ⊎_elim
              (λ before. IsDifference-longer trace (e ∷ []) d ((are.each d).0 before))
              (λ last. subst (IsDifference log (trace ++ e ∷ [])) (only d new last) (IsDifference-last trace e at differs))
              (Contains-append_cases ds (new ∷ []) d h),
          λ h. ⊎_elim
              (λ before. Contains-append_left ds (new ∷ []) d ((are.each d).1 before))
              (λ last.
              let place = one_place log (thread_of e) at d.recorded differs.next last.1.next (own (thread_of e) trace) differs.there differs.by differs.same_past last.1.there last.1.by last.1.same_past in
              subst (Contains (ds ++ new ∷ [])) (same_difference new d last.0 place) (Contains-push ds new))
              (IsDifference-push trace e d h),
        );
        rising = subst IsStrictlyIncreasing (sym (map-append (λ (d : Difference). d.position) ds (new ∷ []))) (rising_push (map (λ d. d.position) ds) (length trace) are.rising (λ k within. within_trace trace ds are k (grind (arith, common_steps))));
      }
    where
      only : (d new : Difference) → Contains (new ∷ []) d → new ≡ d
      only d new h = let first : h.0 ≡ 0 = omega (arith, h.1) in ap (λ k. get_or (new ∷ []) k d) (sym first) ∙ h.2

      same_difference : (d f : Difference) → d.position ≡ f.position → d.recorded ≡ f.recorded → d ≡ f
      same_difference d f positions records = ap (λ n. let g : Difference = record { position = n; recorded = d.recorded } in g) positions ∙ ap (λ n. let g : Difference = record { position = f.position; recorded = n } in g) records

-- ---- as the judge lists them

-- the differing reads, after one more event
pub differing_after : (log events : List Event) (i : ℕ) (e : Event) (old : List Difference) (from : Option ℕ) → i < length events → AreDifferences log (take i events) old → TellsDifference log (take i events) e from → AreDifferences log (take i events ++ e ∷ []) (old ++ difference_at i from)
differing_after log events i e old None within are none = subst (AreDifferences log (take i events ++ e ∷ [])) (sym (append-nil old)) (AreDifferences-kept log (take i events) e old are none)
differing_after log events i e old (Some at) within are some =
    let place : length (take i events) ≡ i = grind (arith, common_steps) in
    subst (AreDifferences log (take i events ++ e ∷ [])) (ap (λ n. let d : Difference = record { position = n; recorded = at } in old ++ d ∷ []) place) (AreDifferences-more log (take i events) e old at are some)
