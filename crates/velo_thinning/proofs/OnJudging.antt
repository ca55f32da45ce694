-- What is not refused names what is there.
use Rattle.std.proofs.Common.{◌≡◌, List, None, refl}
use Rattle.velo_events.specs.declared.config.Bounds.{Bounds}
use Rattle.velo_events.specs.declared.event.Event.{Event}
use Rattle.velo_events.specs.declared.event.Kind.{Kind}
use Rattle.velo_events.specs.declared.event.Kind.TheVariants.{Read}
use Rattle.velo_events.specs.declared.event.ThreadId.{ThreadId}
use Rattle.velo_events.specs.Heap.{value_in}
use Rattle.velo_events.specs.WellFormed.{NamesKnown, IsWellFormed}
use Rattle.velo_events.specs.Meaning.{refusal_of}
use Rattle.velo_events.proofs.OnMeaning.{MayFollow-refusal_of}

-- what a read read plays no part in its refusal
pub known_names : (bounds : Bounds) (log : List Event) (t : ThreadId) (k : Kind) → IsWellFormed bounds log → refusal_of bounds log t.0 k ≡ None → NamesKnown bounds k
unfolding refusal_of
known_names bounds log t (Read x v) well none = ((MayFollow-refusal_of bounds log (record { thread = t; kind = Read x (value_in log x.0) }) well).1 (none, refl)).known_names
known_names bounds log t k well none = ((MayFollow-refusal_of bounds log (record { thread = t; kind = k }) well).1 (none, tt)).known_names
