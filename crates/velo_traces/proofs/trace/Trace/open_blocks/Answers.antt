use Rattle.std.proofs.Common.{rules}
use Rattle.velo_traces.proofs.trace.Trace.open_blocks.Goals as goal

pub open_blocks_in-requires : goal.open_blocks_in-requires
open_blocks_in-requires c = search rules

pub returns : goal.returns
returns c = search rules
