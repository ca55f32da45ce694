use Rattle.std.proofs.Common.{arith}
use Rattle.velo_traces.proofs.table.clear.Goals as goal

pub returns-clause-blank : goal.returns-clause-blank
returns-clause-blank c = record { each = λ x l. c.loop-number.invariant x (omega (arith, l)) }
