use Rattle.velo_audit.specs.Audit.{StandsAt}
use Rattle.velo_audit.specs.Cut.{IsCut}
use Rattle.velo_audit.specs.Rounds.{labels_left}
use Rattle.velo_filter.specs.Tables.{left_of}
use Rattle.velo_audit.proofs.rounds.audit.Given as goal

abbrev pub invariant-loop-cut : goal.invariant-loop-cut
invariant-loop-cut l = record {
  stands : StandsAt l.with_witness l.log.events (left_of l.initial.left) l.rounds.items (left_of l.left);
  is_cut : IsCut (left_of l.left) l.log.events l.cut;
}

abbrev pub decreases-loop-cut : goal.decreases-loop-cut
decreases-loop-cut l = labels_left (left_of l.left) l.log.events
