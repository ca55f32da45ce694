use Rattle.std.proofs.Common.{take}
use Rattle.std.specs.Prelude.{All, IsFalse}
use Rattle.velo_traces.specs.declared.block.Block.{Block}
use Rattle.velo_filter.specs.Tables.{members}
use Rattle.velo_audit.proofs.cut.Cut.has_begun.Given as goal

abbrev pub invariant-loop-block : goal.invariant-loop-block
invariant-loop-block l = All (λ (b : Block). IsFalse (members l.fn.self.begun b.label.0)) (take l.block-index l.blocks)
