use Rattle.std.proofs.Common.{rules}
use Rattle.velo_bytes.proofs.memory_source.Bytes.new.Goals as goal

pub returns : goal.returns
returns c = search rules
