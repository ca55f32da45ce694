-- The latest accesses of a transaction. Private contracts cite these words.
use Rattle.std.specs.Prelude.{◌≡◌, ℕ, ◌<◌, List, length, slice_index, slice_set}
use Rattle.velo_events.specs.declared.event.Event.{Event}
use Rattle.velo_events.specs.declared.event.Kind.{Kind}
use Rattle.velo_events.specs.declared.event.Kind.TheVariants.{Read, Write}
use Rattle.velo_certify.specs.declared.edges.EdgeEvents.{EdgeEvents}
use Rattle.velo_explain.specs.Pairs.{accesses, latest_below, writes}
use Rattle.velo_explain.specs.declared.latest.LatestAccesses.{LatestAccesses}

-- there is a place for each variable
pub record HavePlaces (latest : LatestAccesses) : Type 0 where
  pub accesses : length latest.accesses.items ≡ 65536
  pub writes : length latest.writes.items ≡ 65536

-- these are the numbers after the latest accesses of transaction a before position n
pub record AreLatest (log : List Event) (a n : ℕ) (latest : LatestAccesses) : Type 0 where
  pub accesses : (v : ℕ) → v < 65536 → slice_index latest.accesses.items v ≡ latest_below n (accesses log a v)
  pub writes : (v : ℕ) → v < 65536 → slice_index latest.writes.items v ≡ latest_below n (writes log a v)

-- after an operation of the transaction, by the number after its position
abbrev pub IsNoted : Kind → ℕ → LatestAccesses → LatestAccesses → Type 0
IsNoted (Read x value) number old new =
    (new.accesses.items ≡ slice_set old.accesses.items x.0 number) × (new.writes.items ≡ old.writes.items)
IsNoted (Write x value) number old new =
    (new.accesses.items ≡ slice_set old.accesses.items x.0 number)
    × (new.writes.items ≡ slice_set old.writes.items x.0 number)
IsNoted _ number old new = (new.accesses.items ≡ old.accesses.items) × (new.writes.items ≡ old.writes.items)

-- both are there, in order
pub record IsWithinLog (log : List Event) (pair : EdgeEvents) : Type 0 where
  pub in_order : pair.from < pair.to
  pub in_log : pair.to < length log
