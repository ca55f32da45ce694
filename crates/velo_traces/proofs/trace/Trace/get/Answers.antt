use Rattle.std.proofs.Common.{arith}
use Rattle.std.proofs.lemmas.Grind.{elements}
use Rattle.velo_traces.proofs.trace.Trace.get.Goals as goal

pub returns : goal.returns
returns c = grind (arith, elements)
