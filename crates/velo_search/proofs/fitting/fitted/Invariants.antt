use Rattle.std.proofs.Common.{◌≡◌, ◌<◌, ℕ, map, Some}
use Rattle.std.specs.Prelude.{slice_get}
use Rattle.velo_events.specs.declared.event.Kind.{Kind}
use Rattle.velo_search.specs.Fitting.{IsWithin, NamesStay}
use Rattle.velo_search.specs.Runs.{script_of}
use Rattle.velo_search.proofs.fitting.fitted.Given as goal

abbrev pub invariant-loop-thread : goal.invariant-loop-thread
invariant-loop-thread l = record {
  most : IsWithin l.bounds l.fn.most;
  named : (t i : ℕ) (k : Kind) → t < l.thread → slice_get (script_of (map (λ v. v.items) l.fn.scripts) t) i ≡ Some k → NamesStay l.fn.most l.bounds k;
}
