use Rattle.std.proofs.Common.{◌+◌, sym, arith, rules}
use Rattle.velo_events.proofs.OnFilling.{filled_up-long}
use Rattle.velo_events.proofs.growth.fill_up_to.Goals as goal

pub returns-then-number-len-clause-ok : goal.returns-then-number-len-clause-ok
returns-then-number-len-clause-ok g c = sym (filled_up-long c.args.blank (c.args.number + 1) c.args.items.now.items (omega (arith, c.if-number-len.true, c.len.ensures)))

pub returns-clause-ok : goal.returns-clause-ok
returns-clause-ok g c = search rules
