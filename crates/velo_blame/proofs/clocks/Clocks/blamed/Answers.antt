use Rattle.velo_blame.proofs.OnClocks.{clocks-blamed, kept-blocks}
use Rattle.velo_blame.proofs.clocks.Clocks.blamed.Goals as goal

pub returns-clause-blamed : goal.returns-clause-blamed
returns-clause-blamed c =
    clocks-blamed c.self.inside.tables c.self.inside.bounds c.args.self.now c.args.event.now c.bound-bound.result c.self.view_is c.self.invariant.1 c.bound-bound.ensures c.args.blocks.now _ c.blocks_below.ensures c.args.position

pub returns-clause-blocks : goal.returns-clause-blocks
returns-clause-blocks c = kept-blocks c.bound-bound.result c.args.blocks.now _ c.blocks_below.ensures
