use Rattle.std.proofs.Common.{max, get_or, sym, ◌∙◌, ap, arith}
use Rattle.std.proofs.Math.ListN.{set}
use Rattle.velo_tables.proofs.OnRaised.{raised-nil, raised-more}
use Rattle.velo_tables.proofs.rows.raise.Goals as goal

pub loop-i-init : goal.loop-i-init
loop-i-init c = sym (raised-nil c.args.numbers.now)

pub loop-i-preserved : goal.loop-i-preserved
loop-i-preserved c =
    let others = c.args.others.now in
    let i = c.loop-i.i in
    ap (λ n. set c.loop-i.numbers i n) c.max.ensures
    ∙ (ap (λ ns. set ns i (max (get_or ns i 0) (get_or others i 0))) c.loop-i.invariant
    ∙ sym (raised-more c.args.numbers.now others i (omega (arith, c.loop-i-test.true)) c.requires))
