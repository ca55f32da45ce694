use Rattle.velo_search.specs.Names.{IsNamingOf}
use Rattle.velo_search.proofs.naming.Naming.of_scripts.Given as goal

abbrev pub invariant-loop-thread : goal.invariant-loop-thread
invariant-loop-thread l = IsNamingOf l.fn.bounds l.naming
