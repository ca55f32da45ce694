use Rattle.std.proofs.Common.{map, take}
use Rattle.std.specs.Prelude.{IsFalse}
use Rattle.velo_traces.specs.declared.block.Block.{Block}
use Rattle.velo_filter.specs.Left.{is_listed}
use Rattle.velo_finding.proofs.entries.is_label_of.Given as goal

abbrev pub invariant-loop-block : goal.invariant-loop-block
invariant-loop-block l = IsFalse (is_listed (map (λ (block : Block). block.label.0) (take l.block-index l.blocks)) l.label.0)
