use Rattle.std.proofs.Common.{◌≤◌, length}
use Rattle.velo_certify.specs.Threads.{AreFirstFrom, AreFollowing, NamesFronts}
use Rattle.velo_certify.proofs.threads.Threads.new.Given as goal

abbrev pub invariant-loop-at : goal.invariant-loop-at
invariant-loop-at l = record {
  within : l.at ≤ length l.events;
  names : NamesFronts l.events l.fronts.items;
  fronts : AreFirstFrom l.events l.at l.fronts.items;
  following : AreFollowing l.events l.at l.following.items;
}

abbrev pub decreases-loop-at : goal.decreases-loop-at
decreases-loop-at l = l.at
