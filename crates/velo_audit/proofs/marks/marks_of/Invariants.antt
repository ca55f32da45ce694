use Rattle.std.proofs.Common.{length}
use Rattle.velo_traces.specs.Places.{sizes, AllHavePlaces}
use Rattle.velo_audit.specs.Marks.{AreMarksSoFar}
use Rattle.velo_audit.proofs.marks.marks_of.Given as goal

abbrev pub invariant-loop-thread : goal.invariant-loop-thread
invariant-loop-thread l = record {
  known : AllHavePlaces (sizes l.pass.reach.known) l.events (length l.events);
  others : AllHavePlaces (sizes l.pass.reach.others) l.events (length l.events);
  marks : AreMarksSoFar l.events l.thread 0 l.marks;
}
