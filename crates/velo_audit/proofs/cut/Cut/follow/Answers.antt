use Rattle.std.proofs.Common.{map}
use Rattle.velo_traces.specs.declared.block.Block.{Block}
use Rattle.velo_filter.specs.Left.{with_labels}
use Rattle.velo_audit.proofs.OnCuts.{IsCut-follow}
use Rattle.velo_audit.proofs.cut.Cut.follow.Goals as goal
use Rattle.velo_audit.proofs.cut.Cut.follow.Goals.{then-has_begun+in_ok-self, else-has_begun}

pub returns : goal.returns
returns c left log is = elim c.if-has_begun.branch [
  | then-has_begun+in_ok-self w ↦ rw w.self-is (w.in_ok-self.ensures (with_labels left (map (λ (b : Block). b.label.0) c.args.blocks.now)) log)
  | else-has_begun w ↦ rw w.self-is (IsCut-follow left log c.args.self.now is c.args.blocks.now (c.has_begun.ensures w.if-has_begun.false))
]
