use Rattle.std.proofs.Common.{◌≡◌, ℕ, ◌<◌, ◌≤◌, length}
use Rattle.velo_events.specs.Block.{owner}
use Rattle.velo_explain.proofs.spans.span_of.Given as goal

abbrev pub invariant-loop-at : goal.invariant-loop-at
invariant-loop-at l = record {
  in_order : l.transaction ≤ l.last;
  in_trace : l.last < length l.events;
  own : owner l.events l.last ≡ l.transaction;
  no_later : (i : ℕ) → i < l.at → owner l.events i ≡ l.transaction → i ≤ l.last;
}
