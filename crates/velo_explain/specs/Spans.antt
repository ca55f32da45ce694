-- Where transactions begin and end.
use Rattle.std.specs.Prelude.{◌≡◌, ℕ, ◌<◌, ◌≤◌, List, length, slice_index, slice_index_or}
use Rattle.velo_events.specs.declared.event.Event.{Event}
use Rattle.velo_events.specs.Block.{owner, IsTransaction}
use Rattle.velo_explain.specs.declared.spans.Span.{Span}

-- the first and the last position of transaction a
pub record IsSpan (trace : List Event) (a : ℕ) (span : Span) : Type 0 where
  pub first : span.first ≡ a
  pub in_order : span.first ≤ span.last
  pub in_trace : span.last < length trace
  pub own : owner trace span.last ≡ a
  pub no_later : (i : ℕ) → i < length trace → owner trace i ≡ a → i ≤ span.last

-- the span at a place of a list
abbrev pub span_at : List Span → ℕ → Span
span_at spans k = slice_index_or spans k (record { first = 0; last = 0 })

-- the spans of the first k of some transactions
pub record AreSpansSoFar (trace : List Event) (cycle : List ℕ) (k : ℕ) (spans : List Span) : Type 0 where
  pub count : length spans ≡ k
  pub each : (i : ℕ) → i < k → IsSpan trace (slice_index cycle i) (span_at spans i)

-- of all of them
abbrev pub AreSpans : List Event → List ℕ → List Span → Type 0
AreSpans trace cycle spans = AreSpansSoFar trace cycle (length cycle) spans

-- each number is the first position of a transaction
pub record AreTransactions (trace : List Event) (cycle : List ℕ) : Type 0 where
  pub each : (k : ℕ) → k < length cycle → IsTransaction trace (slice_index cycle k)
