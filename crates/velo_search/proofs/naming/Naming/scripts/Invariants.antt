use Rattle.std.proofs.Common.{◌≡◌, map, take}
use Rattle.velo_search.specs.Names.{numbers_of}
use Rattle.velo_search.specs.Naming.{renamed_scripts}
use Rattle.velo_search.proofs.naming.Naming.scripts.Given as goal

abbrev pub invariant-loop-thread : goal.invariant-loop-thread
invariant-loop-thread l = map (λ v. v.items) l.threads.items ≡ renamed_scripts (numbers_of l.fn.self) (map (λ v. v.items) (take l.thread l.fn.scripts))
