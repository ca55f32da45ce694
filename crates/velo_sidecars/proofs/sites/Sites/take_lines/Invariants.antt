use Rattle.std.proofs.Common.{◌≡◌, ◌+◌, ◌≤◌, length}
use Rattle.velo_names.specs.Line.{lines}
use Rattle.velo_sidecars.specs.SiteAnswers.{header}
use Rattle.velo_sidecars.specs.Sites.{table_from}
use Rattle.velo_sidecars.proofs.sites.Sites.take_lines.Given as goal

abbrev pub invariant-loop-rest : goal.invariant-loop-rest
invariant-loop-rest l =
    record {
      same : table_from (header l.found) l.self l.line (lines l.rest) ≡ table_from (header l.fn.found) l.fn.self 1 (lines l.fn.text);
      last : l.line + length (lines l.rest) ≡ 1 + length (lines l.fn.text);
      numbered : l.line + length l.rest ≤ 1 + length l.fn.text;
    }

abbrev pub decreases-loop-rest : goal.decreases-loop-rest
decreases-loop-rest l = length l.rest
