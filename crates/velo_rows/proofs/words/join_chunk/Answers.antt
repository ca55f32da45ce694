use Rattle.std.proofs.Common.{rules}
use Rattle.velo_rows.proofs.words.join_chunk.Goals as goal

pub returns : goal.returns
returns c = search rules
