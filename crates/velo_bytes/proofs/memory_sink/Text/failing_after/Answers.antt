use Rattle.std.proofs.Common.{rules}
use Rattle.velo_bytes.proofs.memory_sink.Text.failing_after.Goals as goal

pub returns-clause-bytes : goal.returns-clause-bytes
returns-clause-bytes c = search rules
