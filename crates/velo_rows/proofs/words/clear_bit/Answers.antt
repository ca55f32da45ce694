use Rattle.velo_rows.proofs.OnBits.{set_down}
use Rattle.velo_rows.proofs.words.clear_bit.Goals as goal

pub returns-clause-bits : goal.returns-clause-bits
returns-clause-bits c = set_down c.args.words.now c.args.slot c.requires
