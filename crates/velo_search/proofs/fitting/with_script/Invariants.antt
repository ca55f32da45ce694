use Rattle.std.proofs.Common.{◌≡◌, ◌<◌, ℕ, Some}
use Rattle.std.specs.Prelude.{slice_get}
use Rattle.velo_events.specs.declared.event.Kind.{Kind}
use Rattle.velo_search.specs.Fitting.{IsWithin, NamesStay}
use Rattle.velo_search.proofs.fitting.with_script.Given as goal

abbrev pub invariant-loop-place : goal.invariant-loop-place
invariant-loop-place l = record {
  more : IsWithin l.fn.bounds l.bounds;
  most : IsWithin l.bounds l.fn.most;
  named : (i : ℕ) (k : Kind) → i < l.place → slice_get l.fn.script i ≡ Some k → NamesStay l.fn.most l.bounds k;
}
