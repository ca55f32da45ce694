use Rattle.std.proofs.Common.{◌≡◌, ◌+◌, ◌≤◌, length}
use Rattle.velo_names.specs.Line.{lines}
use Rattle.velo_sidecars.specs.ListAnswers.{entries}
use Rattle.velo_sidecars.specs.List.{entries_from}
use Rattle.velo_sidecars.proofs.list.take_lines.Given as goal

abbrev pub invariant-loop-rest : goal.invariant-loop-rest
invariant-loop-rest l =
    record {
      same : entries_from l.scope (entries l.found.items) l.line (lines l.rest) ≡ entries_from l.scope (entries l.fn.found.items) 0 (lines l.fn.text);
      numbered : l.line + length l.rest ≤ length l.fn.text;
    }

abbrev pub decreases-loop-rest : goal.decreases-loop-rest
decreases-loop-rest l = length l.rest
