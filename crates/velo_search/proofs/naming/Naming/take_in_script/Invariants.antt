use Rattle.velo_events.specs.declared.config.Bounds.{Bounds}
use Rattle.velo_search.specs.Names.{IsNamingOf}
use Rattle.velo_search.proofs.naming.Naming.take_in_script.Given as goal

abbrev pub invariant-loop-place : goal.invariant-loop-place
invariant-loop-place l = (bounds : Bounds) → IsNamingOf bounds l.fn.self → IsNamingOf bounds l.self
