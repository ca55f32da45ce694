-- The tally of a thread's events, one event after another.
use Rattle.std.specs.Prelude.{ℕ, ◌+◌, ◌*◌, ◌≤◌, ◌^◌, Some, None}
use Rattle.velo_events.specs.declared.limits.TheConstants.{MAX_EVENTS}
use Rattle.velo_events.specs.declared.event.Event.{Event}
use Rattle.velo_events.specs.declared.event.Kind.{Kind}
use Rattle.velo_events.specs.declared.event.Kind.TheVariants.{Read, Write}
use Rattle.velo_ledger.specs.declared.tally.Tally.{Tally}

-- what an operation reads, and what it writes
abbrev pub read_by : Kind → ℕ
read_by (Read x v) = v
read_by _ = 0

abbrev pub written_by : Kind → ℕ
written_by (Write x v) = v
written_by _ = 0

-- the tally of no event
abbrev pub blank : Tally
blank = record { events = 0; next = 0; last = None; read_total = 0; written_total = 0 }

-- the tally with the event at the position
abbrev pub with_event : Tally → ℕ → Event → Tally
with_event tally position e = record {
  events = tally.events + 1;
  next = position + 1;
  last = Some e;
  read_total = tally.read_total + read_by e.kind;
  written_total = tally.written_total + written_by e.kind;
}

-- no number of the tally overflows
pub record IsSmall (tally : Tally) : Type 0 where
  pub events : tally.events ≤ tally.next
  pub next : tally.next ≤ MAX_EVENTS
  pub read : tally.read_total ≤ tally.events * 2 ^ 64
  pub written : tally.written_total ≤ tally.events * 2 ^ 64
