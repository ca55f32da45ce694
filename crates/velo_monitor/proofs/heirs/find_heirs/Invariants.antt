use Rattle.std.proofs.Common.{ℕ, ◌<◌}
use Rattle.velo_arena.specs.Heirs.{heir_in}
use Rattle.velo_monitor.specs.Heirs.{IsHeirOf}
use Rattle.velo_monitor.proofs.heirs.find_heirs.Given as goal

abbrev pub invariant-loop-slot : goal.invariant-loop-slot
invariant-loop-slot l = (k : ℕ) → k < l.slot → IsHeirOf l.graph l.events l.going l.firsts k (heir_in l.heirs k)
