use Rattle.std.proofs.Common.{◌≡◌, map, take}
use Rattle.velo_traces.specs.declared.block.Block.{Block}
use Rattle.velo_filter.specs.Left.{with_labels}
use Rattle.velo_filter.specs.Tables.{left_of}
use Rattle.velo_audit.proofs.rounds.leave_out_labels.Given as goal

abbrev pub invariant-loop-block : goal.invariant-loop-block
invariant-loop-block l = record { left : left_of l.left ≡ with_labels (left_of l.initial.left) (map (λ (b : Block). b.label.0) (take l.block-index l.blocks)) }
