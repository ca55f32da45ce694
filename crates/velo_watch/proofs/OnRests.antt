-- What is left of a log, with one event more.
use Rattle.std.proofs.Common.{◌≡◌, ◌∙◌, ◌+◌, ◌<◌, ◌≤◌, ℕ, Bool, false, not, List, [], ◌∷◌, ◌++◌, length, get_or, take, Some, Result, Ok, Err, ap, arith, refl, subst, sym}
use Rattle.std.specs.Prelude.{◌↔◌, IfErr, IfNone, IfSome, IsFalse, IsTrue, OnOk, Option, None, is_some, slice_get}
use Rattle.std.specs.Borrow.{Bor}
use Rattle.std.proofs.Math.Seq.{take-append_seam}
use Rattle.std.proofs.lemmas.Bool.{false≢true}
use Rattle.std.proofs.lemmas.List.{length-take-le}
use Rattle.std.proofs.lemmas.Option.{same_Some, slice_get-get_or}
use Rattle.std.proofs.Math.Seq.{take-length}
use Rattle.velo_events.specs.declared.config.Config.{Config}
use Rattle.velo_events.specs.declared.event.Event.{Event}
use Rattle.velo_events.specs.Graph.{HasCycle}
use Rattle.velo_events.specs.WellFormed.{IsWellFormed}
use Rattle.velo_events.proofs.OnGraphs.{HasCycle-from_closing}
use Rattle.velo_events.proofs.OnScans.{take-next}
use Rattle.velo_events.proofs.OnTraces.{slice_get-push}
use Rattle.velo_events.proofs.OnWellFormed.{IsWellFormed-take}
use Rattle.velo_audit.proofs.OnAnswers.{length-rest}
use Rattle.velo_filter.specs.Left.{Omitted, is_left_out, rest_of}
use Rattle.velo_filter.specs.Marks.{AreMarks}
use Rattle.velo_filter.proofs.OnTurns.{IsWellFormed-rest}
use Rattle.velo_traces.specs.Flaws.{flaw_of}
use Rattle.velo_traces.proofs.OnFlaws.{no_flaw-from_MayFollow}
use Rattle.velo_traces.proofs.Past.{past}
use Rattle.velo_world.specs.Faults.{IsFaultAtEvent}
use Rattle.velo_world.specs.World.{IsAlarm}
use Rattle.velo_world.specs.declared.analysis.Alarm.{Alarm}
use Rattle.velo_world.specs.declared.log_replay.LogReplayFault.{LogReplayFault}
use Rattle.velo_watch.specs.Faults.{IsFaultOfLast, IsFaultOfRest, IsMovedFault, fault_at}
use Rattle.velo_watch.specs.RestUnderWay.{IsRestOf}
use Rattle.velo_watch.specs.declared.rest.Rest.{Rest}
use Rattle.velo_watch.proofs.OnFaults.{of_rest}
use Rattle.velo_watch.proofs.OnMore.{places-goes, places-stays, rest-goes, rest-stays}

-- an alarm is there exactly where a cycle is
pub alarm_there : (log : List Event) (alarm : Option (Bor Alarm)) → IfNone alarm (¬ HasCycle log) → IfSome alarm (λ alarm. IsAlarm log alarm.now) → IsTrue (is_some alarm) ↔ HasCycle log
alarm_there log None none some = (λ on. absurd (false≢true on), λ cycle. absurd (none cycle))
alarm_there log (Some alarm) none some = (λ on. HasCycle-from_closing log alarm.now.position some.closing, λ cycle. refl)

-- ---- the last event stays, or it does not

module _ (left : Omitted) (log : List Event) (n : ℕ) (last : length log ≡ n + 1) where
  most : n ≤ length log
  most = omega (arith, last)

  within : n < length log
  within = omega (arith, last)

  abbrev e : Event
  e = get_or log n past

  pub gone : (rest rest' : Rest) → IsFalse (not (is_left_out left log n)) → IsRestOf left (take n log) rest → rest'.world.log ≡ rest.world.log → rest'.places.items ≡ rest.places.items → length rest'.rows.items ≡ 256 → AreMarks left log (n + 1) rest'.rows.items → IsRestOf left log rest'
  gone rest rest' h is events places as_many marks =
      record {
        events = events ∙ (is.events ∙ sym (rest-goes left log n last h));
        places = places ∙ (is.places ∙ sym (places-goes left log n last h));
        as_many = as_many;
        marks = subst (λ (k : ℕ). AreMarks left log k rest'.rows.items) (sym last) marks;
      }

  module _ (stays : IsTrue (not (is_left_out left log n))) where
    pub pushed : {X E : Type 0} (rest rest' : Rest) (r : Result X E) → IsRestOf left (take n log) rest → OnOk r (rest'.world.log ≡ rest.world.log ++ e ∷ []) → OnOk r (rest'.places.items ≡ rest.places.items ++ n ∷ []) → length rest'.rows.items ≡ 256
        → AreMarks left log (n + 1) rest'.rows.items → OnOk r (IsRestOf left log rest')
    pushed rest rest' (Ok x) is events places as_many marks =
        record {
          events = events ∙ (ap (λ (es : List Event). es ++ e ∷ []) is.events ∙ sym (rest-stays left log n last stays));
          places = places ∙ (ap (λ (ks : List ℕ). ks ++ n ∷ []) is.places ∙ sym (places-stays left log n last stays));
          as_many = as_many;
          marks = subst (λ (k : ℕ). AreMarks left log k rest'.rows.items) (sym last) marks;
        }
    pushed rest rest' (Err f) is events places as_many marks = tt

    -- why it finds no node
    module _ (config : Config) (well : IsWellFormed config.bounds log) (few : length log ≤ config.events) where
      before : length (take n log) ≡ n
      before = length-take-le n log most

      here : slice_get log n ≡ Some e
      here = slice_get-get_or log n past within

      whole : take n log ++ e ∷ [] ≡ log
      whole = sym (take-next log n e here) ∙ (ap (λ (k : ℕ). take k log) (sym last) ∙ take-length log)

      clear : flaw_of config.bounds (take n log) e ≡ None
      clear = no_flaw-from_MayFollow config.bounds (take n log) e (IsWellFormed-take config.bounds log n most well) (well.each n e here)

      not_out : (b : Bool) → IsTrue (not b) → b ≡ false
      not_out false h = refl
      not_out Bool.true h = absurd (false≢true h)

      stays_there : is_left_out left (take n log ++ e ∷ []) (length (take n log)) ≡ false
      stays_there = ap (λ (es : List Event). is_left_out left es (length (take n log))) whole ∙ (ap (is_left_out left log) before ∙ not_out (is_left_out left log n) stays)

      rest_formed : IsWellFormed config.bounds (rest_of left (take n log) ++ e ∷ [])
      rest_formed = subst (IsWellFormed config.bounds) (rest-stays left log n last stays) (IsWellFormed-rest left config.bounds log well)

      is_fault : (rest : List Event) → rest ≡ rest_of left (take n log) → (fault : LogReplayFault) → IsMovedFault config rest e n fault → IsFaultOfRest left config (take n log) e fault
      is_fault rest same fault moved =
          subst (IsFaultOfRest left config (take n log) e) (sym (moved.moved ∙ ap (λ (k : ℕ). fault_at k moved.own) (sym before)))
          (of_rest left config (take n log) e clear (omega (arith, before, last, few)) (length-rest left (take n log)) stays_there rest_formed moved.own
          (subst (λ (es : List Event). IsFaultAtEvent config es e moved.own) same moved.is_fault))

      pub fails : {X : Type 0} (rest : List Event) (r : Result X LogReplayFault) → rest ≡ rest_of left (take n log) → IfErr r (IsMovedFault config rest e n) → IfErr r (IsFaultOfLast left config log n)
      fails rest (Ok x) same moved = tt
      fails rest (Err fault) same moved = record { event = e; here = here; is_fault = is_fault rest same fault moved }

-- why the last of these events does not come next
pub of_last : (left : Omitted) (config config' : Config) (log all : List Event) (e : Event) (n : ℕ) (fault : LogReplayFault) → config' ≡ config → all ≡ log ++ e ∷ [] → n ≡ length log → IsFaultOfLast left config' all n fault → IsFaultOfRest left config log e fault
of_last left config config' log all e n fault kept is at last =
    let same : last.event ≡ e =
    same_Some last.event e (sym last.here ∙ (ap (λ (k : ℕ). slice_get all k) at ∙ (ap (λ (es : List Event). slice_get es (length log)) is ∙ slice_get-push log e))) in
    let before : take n all ≡ log = ap (λ (k : ℕ). take k all) at ∙ (ap (λ (es : List Event). take (length log) es) is ∙ take-append_seam log (e ∷ [])) in
    subst (λ (c : Config). IsFaultOfRest left c log e fault) kept
    (subst (λ (es : List Event). IsFaultOfRest left config' es e fault) before
    (subst (λ (f : Event). IsFaultOfRest left config' (take n all) f fault) same last.is_fault))

pub of_last_if : {X : Type 0} (left : Omitted) (config config' : Config) (log all : List Event) (e : Event) (n : ℕ) (r : Result X LogReplayFault) → config' ≡ config → all ≡ log ++ e ∷ [] → n ≡ length log → IfErr r (IsFaultOfLast left config' all n) → IfErr r (IsFaultOfRest left config log e)
of_last_if left config config' log all e n (Ok x) kept is at last = tt
of_last_if left config config' log all e n (Err fault) kept is at last = of_last left config config' log all e n fault kept is at last
