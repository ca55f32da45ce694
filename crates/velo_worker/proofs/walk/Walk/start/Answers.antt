use Rattle.std.proofs.Common.{◌∙◌, ap}
use Rattle.velo_worker.specs.Cursor.{left_at}
use Rattle.velo_worker.proofs.OnWalks.{StandsIn-start, left_at-start}
use Rattle.velo_worker.proofs.walk.Walk.start.Goals as goal

pub invariant_of-result : goal.invariant_of-result
invariant_of-result c = record {
  are_ends = c.in_ok-ends.ensures;
  stands = rw c.start.ensures (StandsIn-start c.args.body.now c.requires.nested);
}

pub returns : goal.returns
returns c = ap (left_at c.args.body.now) c.start.ensures ∙ left_at-start c.args.body.now
