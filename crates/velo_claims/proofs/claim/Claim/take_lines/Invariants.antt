use Rattle.std.proofs.Common.{◌≡◌, ◌+◌, ◌≤◌, length}
use Rattle.velo_names.specs.Line.{lines}
use Rattle.velo_claims.specs.declared.claim.Part.TheVariants.{Events}
use Rattle.velo_claims.specs.Text.{claims_from}
use Rattle.velo_claims.proofs.claim.Claim.take_lines.Given as goal

abbrev pub invariant-loop-rest : goal.invariant-loop-rest
invariant-loop-rest l =
    record {
      same : claims_from l.part l.self l.line (lines l.rest) ≡ claims_from Events l.fn.self 0 (lines l.fn.text);
      last : l.line + length (lines l.rest) ≡ length (lines l.fn.text);
      numbered : l.line + length l.rest ≤ length l.fn.text;
    }

abbrev pub decreases-loop-rest : goal.decreases-loop-rest
decreases-loop-rest l = length l.rest
