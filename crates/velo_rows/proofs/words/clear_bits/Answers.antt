use Rattle.std.proofs.Common.{◌<◌, ◌*◌, arith}
use Rattle.velo_rows.proofs.OnBits.{zeroed-all}
use Rattle.velo_rows.proofs.words.clear_bits.Goals as goal

pub returns-clause-bits : goal.returns-clause-bits
returns-clause-bits c =
    zeroed-all c.args.words.now c.loop-i.words c.loop-i.i (λ k up. let under : k < 64 * c.args.count = c.requires.bits k up in omega (arith, c.loop-i-test.false)) c.loop-i.invariant
