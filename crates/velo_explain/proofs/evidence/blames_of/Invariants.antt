use Rattle.std.proofs.Common.{◌≤◌, length}
use Rattle.std.specs.Prelude.{vec_capacity}
use Rattle.velo_explain.specs.Evidence.{AreBlamesSoFar}
use Rattle.velo_explain.proofs.evidence.blames_of.Given as goal

abbrev pub invariant-loop-k : goal.invariant-loop-k
invariant-loop-k l = record {
  blames : AreBlamesSoFar l.trace.events l.position l.blamed l.k l.blames.items;
  room : length l.blamed ≤ vec_capacity l.blames;
}
