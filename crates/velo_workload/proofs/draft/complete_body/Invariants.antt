use Rattle.velo_workload.proofs.Building.{IsCompletedUpTo}
use Rattle.velo_workload.specs.Known.{known_of}
use Rattle.velo_workload.specs.Outline.{names_in}
use Rattle.velo_workload.proofs.draft.complete_body.Given as goal

abbrev pub invariant-loop-open : goal.invariant-loop-open
invariant-loop-open l = IsCompletedUpTo (names_in (known_of l.outline)) l.fn.draft.later.items l.fn.draft.statements.items l.open-index l.statements.items
