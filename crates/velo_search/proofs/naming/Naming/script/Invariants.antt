use Rattle.std.proofs.Common.{◌≡◌, map, take}
use Rattle.velo_search.specs.Names.{numbers_of}
use Rattle.velo_search.specs.Naming.{renamed_kind}
use Rattle.velo_search.proofs.naming.Naming.script.Given as goal

abbrev pub invariant-loop-place : goal.invariant-loop-place
invariant-loop-place l = l.kinds.items ≡ map (renamed_kind (numbers_of l.fn.self)) (take l.place l.fn.script)
