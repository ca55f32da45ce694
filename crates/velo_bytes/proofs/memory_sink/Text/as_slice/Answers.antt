use Rattle.std.proofs.Common.{rules}
use Rattle.velo_bytes.proofs.memory_sink.Text.as_slice.Goals as goal

pub returns : goal.returns
returns c = search rules
