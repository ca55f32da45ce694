-- Which event may follow, by what a heap answers.
use Rattle.std.proofs.Common.{◌≡◌, ℕ, ◌<◌, Bool, List, length, Some, None, refl, sym, ap, ◌∙◌}
use Rattle.std.specs.Prelude.{slice_get, slice_index_or, IsTrue}
use Rattle.std.proofs.lemmas.Option.{slice_get-get_or}
use Rattle.velo_events.specs.declared.config.Bounds.{Bounds}
use Rattle.velo_events.specs.declared.event.Event.{Event}
use Rattle.velo_events.specs.declared.event.Kind.{Kind}
use Rattle.velo_events.specs.declared.event.Kind.TheVariants.{Read, Write, Acquire, Release, AcquireShared, ReleaseShared, Fork, Join}
use Rattle.velo_events.specs.declared.event.ThreadId.{ThreadId}
use Rattle.velo_events.specs.Event.{thread_of}
use Rattle.velo_events.specs.Heap.{value_in}
use Rattle.velo_events.specs.Meaning.{refusal_of, has_its_value}
use Rattle.velo_events.specs.WellFormed.{MayFollow, NamesKnown, IsWellFormed}
use Rattle.velo_events.proofs.OnMeaning.{MayFollow-refusal_of, HasItsValue-true, has_its_value-true}

event_by : ThreadId → Kind → Event
event_by t k = record { thread = t; kind = k }

-- what is not refused has its names in the bounds
names_known : (bounds : Bounds) (trace : List Event) (t : ThreadId) (k : Kind) → IsWellFormed bounds trace → refusal_of bounds trace t.0 k ≡ None → NamesKnown bounds k
unfolding refusal_of event_by
names_known bounds trace t (Read x v) well none = ((MayFollow-refusal_of bounds trace (event_by t (Read x (value_in trace x.0))) well).1 (none, refl)).known_names
names_known bounds trace t (Write x v) well none = ((MayFollow-refusal_of bounds trace (event_by t (Write x v)) well).1 (none, tt)).known_names
names_known bounds trace t (Acquire m) well none = ((MayFollow-refusal_of bounds trace (event_by t (Acquire m)) well).1 (none, tt)).known_names
names_known bounds trace t (Release m) well none = ((MayFollow-refusal_of bounds trace (event_by t (Release m)) well).1 (none, tt)).known_names
names_known bounds trace t (AcquireShared m) well none = ((MayFollow-refusal_of bounds trace (event_by t (AcquireShared m)) well).1 (none, tt)).known_names
names_known bounds trace t (ReleaseShared m) well none = ((MayFollow-refusal_of bounds trace (event_by t (ReleaseShared m)) well).1 (none, tt)).known_names
names_known bounds trace t (Fork u) well none = ((MayFollow-refusal_of bounds trace (event_by t (Fork u)) well).1 (none, tt)).known_names
names_known bounds trace t (Join u) well none = ((MayFollow-refusal_of bounds trace (event_by t (Join u)) well).1 (none, tt)).known_names
names_known bounds trace t _ well none = tt

pub follows_where : (bounds : Bounds) (trace : List Event) (e : Event) (has : Bool) → IsWellFormed bounds trace → refusal_of bounds trace (thread_of e) e.kind ≡ None → (NamesKnown bounds e.kind → has ≡ has_its_value trace e.kind) → (IsTrue has → MayFollow bounds trace e) × (MayFollow bounds trace e → IsTrue has)
follows_where bounds trace e has well none told =
    let same = told (names_known bounds trace e.thread e.kind well none) in (
      λ yes. (MayFollow-refusal_of bounds trace e well).1 (none, HasItsValue-true trace e.kind (sym same ∙ yes)),
      λ f. same ∙ has_its_value-true trace e.kind ((MayFollow-refusal_of bounds trace e well).0 f).1,
    )

pub refused_where : (bounds : Bounds) (trace : List Event) (e : Event) → IsWellFormed bounds trace → ¬ (refusal_of bounds trace (thread_of e) e.kind ≡ None) → ¬ MayFollow bounds trace e
refused_where bounds trace e well refused f = refused ((MayFollow-refusal_of bounds trace e well).0 f).0

-- ---- look-ups

pub item_at : {X : Type 0} (xs : List X) (i : ℕ) (x : X) → i < length xs → x ≡ slice_index_or xs i x → slice_get xs i ≡ Some x
item_at xs i x within is = slice_get-get_or xs i x within ∙ ap Some (sym is)
