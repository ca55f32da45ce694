use Rattle.std.proofs.Common.{◌≡◌, drop}
use Rattle.velo_names.specs.Line.{has_control}
use Rattle.velo_names.proofs.line.has_control.Given as goal

abbrev pub invariant-loop-byte : goal.invariant-loop-byte
invariant-loop-byte l = has_control l.before (drop l.byte-index l.bytes) ≡ has_control 0 l.bytes
