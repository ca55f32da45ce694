use Rattle.velo_rows.proofs.OnBits.{set_up}
use Rattle.velo_rows.proofs.words.set_bit.Goals as goal

pub returns-clause-bits : goal.returns-clause-bits
returns-clause-bits c = set_up c.args.words.now c.args.slot c.requires
