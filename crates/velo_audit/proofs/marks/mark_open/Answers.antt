use Rattle.std.proofs.Common.{take, subst}
use Rattle.std.specs.Prelude.{◌⊎◌, ◌↔◌, IsTrue}
use Rattle.velo_audit.specs.Open.{IsListedAt}
use Rattle.velo_audit.specs.Marks.{mark_at}
use Rattle.velo_audit.proofs.OnMarks.{below-first, before-first, either-same}
use Rattle.velo_audit.proofs.marks.mark_open.Goals as goal

pub returns-clause-blamed : goal.returns-clause-blamed
returns-clause-blamed c = λ b. either-same (c.mark.ensures.marked b) (below-first c.args.blocks.now c.args.bound c.below-count.result c.requires.rise c.below-count.ensures b)

pub returns-clause-around : goal.returns-clause-around
returns-clause-around c = λ b.
    let marked = subst (λ n. IsTrue (mark_at c.mark-2.new.marks.items b) ↔ (IsTrue (mark_at c.args.marks.now.around.items b) ⊎ IsListedAt (take n c.args.blocks.now) b)) c.saturating_sub.ensures (c.mark-2.ensures.marked b) in
    either-same marked (before-first c.args.blocks.now c.args.bound c.below-count.result c.requires.rise c.below-count.ensures b)
