use Rattle.std.proofs.Common.{◌≤◌, length}
use Rattle.std.specs.Prelude.{vec_capacity}
use Rattle.velo_explain.specs.Spans.{AreSpansSoFar}
use Rattle.velo_explain.proofs.spans.all_spans.Given as goal

abbrev pub invariant-loop-k : goal.invariant-loop-k
invariant-loop-k l = record {
  spans : AreSpansSoFar l.events l.cycle l.k l.spans.items;
  room : length l.cycle ≤ vec_capacity l.spans;
}
