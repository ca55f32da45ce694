use Rattle.std.proofs.Common.{◌<◌, ap, arith, rules}
use Rattle.std.specs.Prelude.{◌==◌}
use Rattle.std.proofs.lemmas.Bool.{eq-eqb}
use Rattle.std.proofs.lemmas.Nat.Bits.{bit_at-trailing_zeros}
use mir.Syntax.{w64}
use Rattle.velo_events.proofs.thread_set.ThreadSet.first.Goals as goal

pub returns-else-self-eq0-clause-member : goal.returns-else-self-eq0-clause-member
returns-else-self-eq0-clause-member c =
    let fits : c.args.self.0 < 18446744073709551616 = search rules in
    let some : 0 < c.args.self.0 = omega (arith, c.if-self-eq0.false) in
    eq-eqb _ _ (bit_at-trailing_zeros w64 c.args.self.0 some fits).1

pub returns-else-self-eq0-clause-least : goal.returns-else-self-eq0-clause-least
returns-else-self-eq0-clause-least c u before =
    let fits : c.args.self.0 < 18446744073709551616 = search rules in
    let some : 0 < c.args.self.0 = omega (arith, c.if-self-eq0.false) in
    ap (λ b. b == 1) ((bit_at-trailing_zeros w64 c.args.self.0 some fits).2 u before)
