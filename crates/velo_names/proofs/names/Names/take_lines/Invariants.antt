use Rattle.std.proofs.Common.{◌≡◌, ◌+◌, ◌≤◌, length}
use Rattle.velo_names.specs.Line.{lines}
use Rattle.velo_names.specs.Names.{names_from}
use Rattle.velo_names.proofs.names.Names.take_lines.Given as goal

abbrev pub invariant-loop-rest : goal.invariant-loop-rest
invariant-loop-rest l =
    record {
      same : names_from l.self l.line (lines l.rest) ≡ names_from l.fn.self 0 (lines l.fn.text);
      numbered : l.line + length l.rest ≤ length l.fn.text;
    }

abbrev pub decreases-loop-rest : goal.decreases-loop-rest
decreases-loop-rest l = length l.rest
