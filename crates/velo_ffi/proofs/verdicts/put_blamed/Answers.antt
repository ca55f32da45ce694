use Rattle.std.proofs.Common.{rules}
use Rattle.velo_ffi.proofs.OnVerdicts.{blocks_of_alarm, no_blocks, short_blocks}
use Rattle.velo_ffi.proofs.verdicts.put_blamed.Goals as goal

pub returns-in-None-clause-told : goal.returns-in-None-clause-told
returns-in-None-clause-told c = no_blocks c.args.watch.now.world.log c.args.buffer.now (search rules)

pub returns-then-blocks-buffer-clause-told : goal.returns-then-blocks-buffer-clause-told
returns-then-blocks-buffer-clause-told c = short_blocks c.args.watch.now.world.log c.in-Some.alarm.now (search rules) c.as_slice-blocks.result.now (search rules) _ _ (search rules) (search rules)

pub returns-else-blocks-buffer-clause-told : goal.returns-else-blocks-buffer-clause-told
returns-else-blocks-buffer-clause-told c = blocks_of_alarm c.args.watch.now.world.log c.in-Some.alarm.now (search rules) c.as_slice-blocks.result.now (search rules) _ _ (search rules) (search rules) c.put_blocks.ensures
