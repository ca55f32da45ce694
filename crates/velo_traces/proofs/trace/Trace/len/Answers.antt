use Rattle.std.proofs.Common.{rules}
use Rattle.velo_traces.proofs.trace.Trace.len.Goals as goal

pub returns : goal.returns
returns c = search rules
