use Rattle.std.proofs.Common.{◌≡◌, take}
use Rattle.velo_filter.specs.Left.{with_labels}
use Rattle.velo_filter.specs.Tables.{left_of}
use Rattle.velo_delays.specs.Found.{labels_of}
use Rattle.velo_delays.proofs.rounds.leave_out_all.Given as goal

abbrev pub invariant-loop-block : goal.invariant-loop-block
invariant-loop-block l = record { left : left_of l.left ≡ with_labels (left_of l.initial.left) (labels_of (take l.block-index l.blocks)) }
