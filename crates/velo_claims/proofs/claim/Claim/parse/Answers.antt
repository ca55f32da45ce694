use Rattle.std.proofs.Common.{ap, sym, ◌∙◌, rules}
use Rattle.velo_names.specs.Line.{lines}
use Rattle.velo_claims.specs.declared.claim.Part.TheVariants.{Events}
use Rattle.velo_claims.specs.Text.{claims_from}
use Rattle.velo_claims.proofs.claim.Claim.parse.Goals as goal

pub returns-then-not-is_whole : goal.returns-then-not-is_whole
returns-then-not-is_whole c =
    let bytes = c.args.bytes.now in (
      search rules,
      c.in_ok-part.ensures.last,
      (
        c.in_ok-part.part,
        c.take_lines.new.self,
        ap (λ claim. claims_from Events claim 0 (lines bytes)) (sym c.new-claim.ensures) ∙ c.in_ok-part.ensures.claims,
        c.is_whole.ensures.partial (search rules),
      ),
    )
