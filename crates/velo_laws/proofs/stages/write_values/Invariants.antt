use Rattle.std.proofs.Common.{List}
use Rattle.velo_events.specs.declared.event.Event.{Event}
use Rattle.velo_heap.specs.Contents.{IsHeapOf}
use Rattle.velo_laws.specs.Stages.{HasForked, HasWritten}
use Rattle.velo_laws.proofs.stages.write_values.Given as goal

abbrev pub invariant-loop-variable : goal.invariant-loop-variable
invariant-loop-variable l = record { so_far : (log : List Event) → IsHeapOf l.heap log → HasForked l.bounds log l.fn.made.events l.bounds.threads → HasWritten l.bounds log l.made.events l.variable }
