use Rattle.std.proofs.Common.{◌≡◌}
use Rattle.velo_audit.specs.Tally.{is_block_of, count_below}
use Rattle.velo_audit.proofs.OnTally.{is_blamed_of, is_innermost_of}
use Rattle.velo_audit.proofs.tally.tally_of.Given as goal

abbrev pub invariant-loop-at : goal.invariant-loop-at
invariant-loop-at l = record {
  blocks : l.tally.blocks ≡ count_below l.at (is_block_of l.events l.label.0);
  blamed : l.tally.blamed ≡ count_below l.at (is_blamed_of l.events l.marks l.label.0);
  innermost : l.tally.innermost ≡ count_below l.at (is_innermost_of l.events l.marks l.label.0);
}
