use Rattle.std.proofs.Common.{◌≡◌, ◌++◌, take, drop, map}
use Rattle.std.specs.Prelude.{option_map}
use Rattle.velo_arena.specs.Heirs.{renamed}
use Rattle.velo_tables.proofs.entry.rename_entries.Given as goal

abbrev pub invariant-loop-number : goal.invariant-loop-number
invariant-loop-number l = l.entries ≡ map (option_map (renamed l.heirs)) (take l.number l.initial.entries) ++ drop l.number l.initial.entries
