use Rattle.std.proofs.Common.{◌+◌, ◌-◌, ◌^◌, ◌<◌, ℕ, List, subst}
use Rattle.std.specs.Prelude.{IfOk, if◌then◌else◌}
use Rattle.velo_traces.specs.declared.block.Block.{Block}
use Rattle.velo_explore.specs.Runs.{has_label}
use Rattle.velo_explore.specs.Tallies.{AreCounts}
use Rattle.velo_explore.proofs.OnRuns.{AreCounts-no_alarm}
use Rattle.velo_explore.proofs.noting.blamed_with.Goals as goal

pub returns-in-Some : goal.returns-in-Some
returns-in-Some c =
    rw c.in-Some.is
    (subst (λ (blocks : List Block). IfOk c.count_alarm.result (λ after. (count : ℕ → ℕ) → ((label : ℕ) → count label < 2 ^ 64 - 1) → AreCounts count c.args.blamed.items
    → AreCounts (λ label. count label + (if has_label label blocks then 1 else 0)) after.items))
    c.as_slice.ensures c.count_alarm.ensures)

pub returns-in-None : goal.returns-in-None
returns-in-None c = λ count few counts. AreCounts-no_alarm count c.args.alarm c.args.blamed.items c.in-None.is counts
