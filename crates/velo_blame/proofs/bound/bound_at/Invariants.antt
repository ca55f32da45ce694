use Rattle.std.proofs.Common.{◌≡◌}
use Rattle.velo_events.specs.Conflict.{conflict}
use Rattle.velo_events.specs.Event.{thread_of}
use Rattle.velo_traces.specs.Places.{sizes}
use Rattle.velo_blame.specs.Known.{IsEndOf, IsKnown, is_by_others, KnowsUpTo}
use Rattle.velo_blame.proofs.bound.bound_at.Given as goal

abbrev pub invariant-loop-at : goal.invariant-loop-at
invariant-loop-at l = record {
  sizes : sizes l.known ≡ sizes l.fn.known;
  known : KnowsUpTo l.events (thread_of l.last) l.at l.known;
  bound : IsEndOf (IsKnown l.events (thread_of l.last) l.at (is_by_others (thread_of l.last) (λ f. conflict f l.last))) l.bound;
}
