use Rattle.std.proofs.Common.{sym}
use Rattle.velo_bytes.proofs.OnNumbers.{after_short}
use Rattle.velo_bytes.proofs.words.after.Goals as goal

pub returns-then-bytes-word : goal.returns-then-bytes-word
returns-then-bytes-word c = sym (after_short c.args.word.now c.args.bytes.now c.if-bytes-word.true)
