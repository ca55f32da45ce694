use Rattle.std.proofs.Common.{◌-◌, length}
use Rattle.velo_filter.specs.Tables.{left_of}
use Rattle.velo_audit.specs.Cut.{IsCut}
use Rattle.velo_audit.proofs.pieces.by_pieces.Given as goal

abbrev pub invariant-loop-cut : goal.invariant-loop-cut
invariant-loop-cut l = record { is_cut : IsCut (left_of l.left) l.log.events l.cut }

abbrev pub decreases-loop-cut : goal.decreases-loop-cut
decreases-loop-cut l = length l.log.events - l.cut.place
