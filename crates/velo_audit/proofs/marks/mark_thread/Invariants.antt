use Rattle.std.proofs.Common.{◌≡◌}
use Rattle.velo_traces.specs.Places.{sizes}
use Rattle.velo_audit.specs.Marks.{StandsAt}
use Rattle.velo_audit.proofs.marks.mark_thread.Given as goal

abbrev pub invariant-loop-at : goal.invariant-loop-at
invariant-loop-at l = record {
  known : sizes l.pass.reach.known ≡ sizes l.fn.pass.reach.known;
  others : sizes l.pass.reach.others ≡ sizes l.fn.pass.reach.others;
  stands : StandsAt l.events l.thread.0 l.at l.marks l.pass.reach.known l.pass.reach.others l.pass.reach.bound l.pass.blocks.items;
}
