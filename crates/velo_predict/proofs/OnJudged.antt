-- What is known of the first events of a trace, one event later.
use Rattle.std.proofs.Common.{◌≡◌, ℕ, ◌+◌, ◌<◌, List, [], ◌∷◌, ◌++◌, length, take, get_or, set, Some, sym, ap, ◌∙◌, subst, arith}
use Rattle.std.specs.Prelude.{◌||◌, slice_get, IsTrue}
use Rattle.std.proofs.lemmas.Option.{slice_get-get_or}
use Rattle.velo_events.specs.declared.config.Bounds.{Bounds}
use Rattle.velo_events.specs.declared.event.Event.{Event}
use Rattle.velo_events.specs.Event.{thread_of}
use Rattle.velo_events.specs.WellFormed.{MayFollow}
use Rattle.velo_events.proofs.OnScans.{take-next}
use Rattle.velo_heap.specs.Contents.{bounds_of, IsHeapOf}
use Rattle.velo_movers.specs.Free.{gives_up}
use Rattle.velo_predict.specs.Courses.{IsCourse, IsJudged, TellsLoose}
use Rattle.velo_predict.specs.Differences.{AreDifferences}
use Rattle.velo_predict.specs.Predictions.{IsForetold, IsPrediction}
use Rattle.velo_predict.specs.declared.judge.Course.{Course}
use Rattle.velo_predict.specs.declared.judge.Judged.{Judged}
use Rattle.velo_predict.proofs.OnCourses.{courses_after, loose_after, IsPrediction-push}

-- the event at a position is foretold, and may follow
pub event_in : (bounds : Bounds) (log events : List Event) (i : ℕ) (d : Event) → i < length events → IsPrediction bounds log events → MayFollow bounds (take i events) (get_or events i d) × IsForetold log (take i events) (get_or events i d)
event_in bounds log events i d within p =
    let here = slice_get-get_or events i d within in
    (p.well_formed.each i (get_or events i d) here, p.each i (get_or events i d) here)

pub judged_after : (bounds : Bounds) (log events : List Event) (i : ℕ) (d : Event) (old new : Judged) (course after : Course) → i < length events →
    IsJudged bounds log (take i events) old →
    let e = get_or events i d in
    slice_get old.courses.items (thread_of e) ≡ Some course →
    MayFollow bounds (take i events) e →
    IsForetold log (take i events) e →
    (IsTrue course.is_unsure → IsTrue (gives_up e.kind)) →
    IsCourse log (take i events ++ e ∷ []) (thread_of e) after →
    IsHeapOf new.heap (take i events ++ e ∷ []) →
    bounds_of new.heap ≡ bounds →
    new.courses.items ≡ set old.courses.items (thread_of e) after →
    length new.courses.items ≡ length old.courses.items →
    new.is_loose ≡ (old.is_loose || course.is_unsure) →
    AreDifferences log (take i events ++ e ∷ []) new.differing.items →
    IsJudged bounds log (take (i + 1) events) new
judged_after bounds log events i d old new course after within stands at follows foretold release fresh heap same courses count loose differing =
    let e = get_or events i d in
    let trace = take i events in
    let threads : thread_of e < length old.courses.items = omega (arith, follows.known_thread, stands.count) in
    subst (λ es. IsJudged bounds log es new) (sym (take-next events i e (slice_get-get_or events i d within)))
    (record {
      heap = heap;
      same_bounds = same;
      count = count ∙ stands.count;
      courses = λ t c here. courses_after log trace e old.courses.items after stands.courses threads fresh t c (ap (λ cs. slice_get cs t) (sym courses) ∙ here);
      loose = subst (λ b. TellsLoose log (trace ++ e ∷ []) b) (sym loose) (loose_after log trace e course old.is_loose stands.loose (stands.courses (thread_of e) course at) release);
      differing = differing;
      prediction = IsPrediction-push bounds log trace e stands.prediction follows foretold;
    })
