-- What a state's next events lead to.
use Rattle.std.proofs.Common.{◌≡◌, ℕ, ◌+◌, ◌<◌, List, [], ◌∷◌, ◌++◌, length, take, drop, get_or, Some, None, sym, ap, ◌∙◌, subst}
use Rattle.std.specs.Prelude.{slice_get}
use Rattle.std.proofs.lemmas.Option.{same_Some}
use Rattle.std.proofs.lemmas.List.{take-append-drop}
use Rattle.std.proofs.lemmas.List.Folds.{map_fixed}
use Rattle.std.proofs.lemmas.Option.{slice_get-get_or}
use Rattle.velo_events.specs.declared.config.Bounds.{Bounds}
use Rattle.velo_events.specs.declared.event.ThreadId.{ThreadId}
use Rattle.velo_events.specs.declared.event.Event.{Event}
use Rattle.velo_events.specs.declared.event.Kind.{Kind}
use Rattle.velo_events.specs.declared.event.Kind.TheVariants.{Read, Write, Acquire, Release, AcquireShared, ReleaseShared, Begin, End, Fork, Join, Exit}
use Rattle.velo_events.specs.Event.{thread_of}
use Rattle.velo_events.specs.Heap.{value_in}
use Rattle.velo_events.specs.Meaning.{refusal_of}
use Rattle.velo_events.specs.Tally.{events_of}
use Rattle.velo_events.proofs.OnMeaning.{HasItsValue, MayFollow-refusal_of}
use Rattle.velo_events.proofs.OnScans.{take-next}
use Rattle.velo_search.specs.Plain.{plain_kind, plain, plain_log}
use Rattle.velo_search.specs.Runs.{script_of, IsRunOf, IsNext}
use Rattle.velo_search.specs.Search.{ArePlain}
use Rattle.velo_search.proofs.OnPlain.{value_in-plain}
use Rattle.velo_search.proofs.OnRuns.{IsRunOf-before, IsNext-last}

-- an event is its thread and its operation
pub same_event : (e : Event) (t : ThreadId) (k : Kind) → thread_of e ≡ t.0 → e.kind ≡ k → e ≡ record { thread = t; kind = k }
same_event e t k own is = λ i. record { thread = record { 0 = own i }; kind = is i }

module _ (bounds : Bounds) (scripts : List (List Kind)) (plain_ones : ArePlain scripts) where
  -- 57. each event of a run is without a value
  event-plain : (log : List Event) (i : ℕ) (e : Event) → IsRunOf bounds scripts log → i < length log → slice_get log i ≡ Some e → plain e ≡ e
  event-plain log i e run within here =
      let first : take (i + 1) log ≡ take i log ++ e ∷ [] = take-next log i e here in
      let part = IsRunOf-before bounds scripts (take (i + 1) log) (drop (i + 1) log) (subst (IsRunOf bounds scripts) (sym (take-append-drop (i + 1) log)) run) in
      let next = IsNext-last bounds scripts (take i log) e (subst (IsRunOf bounds scripts) first part) in
      let is = plain_ones (thread_of e) (events_of (take i log) (thread_of e)) e.kind next.due in
      λ j. record { thread = e.thread; kind = is j }

  -- 58. so is the whole run
  pub run-plain : (log : List Event) → IsRunOf bounds scripts log → plain_log log ≡ log
  run-plain log run = map_fixed plain log (λ k d l. event-plain log k (get_or log k d) run l (slice_get-get_or log k d l))

  -- 59. and every variable has the value 0
  pub value-zero : (log : List Event) (x : ℕ) → IsRunOf bounds scripts log → value_in log x ≡ 0
  value-zero log x run = ap (λ xs. value_in xs x) (sym (run-plain log run)) ∙ value_in-plain log x

  has_value : (log : List Event) (k : Kind) → IsRunOf bounds scripts log → plain_kind k ≡ k → HasItsValue log k
  has_value log (Read x v) run is = sym (value_of_read is) ∙ sym (value-zero log x.0 run)
    where
      value_of_read : Read x 0 ≡ Read x v → 0 ≡ v
      value_of_read same = cc
  has_value log (Write x v) run is = tt
  has_value log (Acquire m) run is = tt
  has_value log (Release m) run is = tt
  has_value log (AcquireShared m) run is = tt
  has_value log (ReleaseShared m) run is = tt
  has_value log (Begin l) run is = tt
  has_value log End run is = tt
  has_value log (Fork u) run is = tt
  has_value log (Join u) run is = tt
  has_value log Exit run is = tt

  -- 60. the operation that is due may come next, where it is not refused
  pub due-next : (log : List Event) (t : ThreadId) (k : Kind) → IsRunOf bounds scripts log → slice_get (script_of scripts t.0) (events_of log t.0) ≡ Some k → refusal_of bounds log t.0 k ≡ None → IsNext bounds scripts log (record { thread = t; kind = k })
  due-next log t k run due none = record {
    follows = (MayFollow-refusal_of bounds log (record { thread = t; kind = k }) run.well_formed).1 (none, has_value log k run (plain_ones t.0 (events_of log t.0) k due));
    due = due;
  }

  -- 61. and only where it is not
  pub next-not_refused : (log : List Event) (e : Event) (t : ThreadId) (k : Kind) → IsRunOf bounds scripts log → IsNext bounds scripts log e → thread_of e ≡ t.0 → slice_get (script_of scripts t.0) (events_of log t.0) ≡ Some k → (e ≡ record { thread = t; kind = k }) × (refusal_of bounds log t.0 k ≡ None)
  next-not_refused log e t k run next own due =
      let is : e.kind ≡ k = same_Some e.kind k (sym (subst (λ u. slice_get (script_of scripts u) (events_of log u) ≡ Some e.kind) own next.due) ∙ due) in
      let same = same_event e t k own is in
      (same, subst (λ f. refusal_of bounds log (thread_of f) f.kind ≡ None) same ((MayFollow-refusal_of bounds log e run.well_formed).0 next.follows).0)
