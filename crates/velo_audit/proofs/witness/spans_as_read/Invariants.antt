use Rattle.std.proofs.Common.{◌≡◌, ◌≤◌, length, map, take}
use Rattle.std.specs.Prelude.{vec_capacity, slice_index}
use Rattle.velo_audit.specs.Witness.{span_as_read}
use Rattle.velo_audit.proofs.witness.spans_as_read.Given as goal

abbrev pub invariant-loop-k : goal.invariant-loop-k
invariant-loop-k l = record {
  items : l.read.items ≡ map (span_as_read (slice_index l.places)) (take l.k l.spans);
  room : length l.spans ≤ vec_capacity l.read;
}
