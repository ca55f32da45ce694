use Rattle.std.proofs.Common.{◌≡◌, ◌<◌, ℕ, [], length, map, Some}
use Rattle.std.specs.Prelude.{slice_get, slice_index_or}
use Rattle.velo_events.specs.declared.event.Kind.{Kind}
use Rattle.velo_search.specs.Free.{is_free_at, is_marked}
use Rattle.velo_search.specs.Runs.{script_of}
use Rattle.velo_search.proofs.free.free_ones.Given as goal

abbrev pub invariant-loop-thread : goal.invariant-loop-thread
invariant-loop-thread l = record {
  count : length l.free.items ≡ l.thread;
  same : (t : ℕ) → t < l.thread → length (slice_index_or (map (λ v. v.items) l.free.items) t []) ≡ length (script_of (map (λ v. v.items) l.fn.scripts) t);
  each : (t i : ℕ) (k : Kind) → t < l.thread → slice_get (script_of (map (λ v. v.items) l.fn.scripts) t) i ≡ Some k →
      is_marked (map (λ v. v.items) l.free.items) t i ≡ is_free_at l.fn.locks (map (λ v. v.items) l.fn.scripts) t i k;
}
