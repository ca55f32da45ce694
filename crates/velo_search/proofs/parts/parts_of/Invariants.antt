use Rattle.std.proofs.Common.{◌≡◌, ◌<◌, ℕ, length, map, take, Some}
use Rattle.std.specs.Prelude.{slice_get}
use Rattle.velo_events.specs.declared.event.Kind.{Kind}
use Rattle.velo_filter.specs.Tables.{left_of}
use Rattle.velo_search.specs.Parts.{open_behind, part_at, part_of}
use Rattle.velo_search.specs.Runs.{script_of}
use Rattle.velo_search.proofs.parts.parts_of.Given as goal

abbrev pub invariant-loop-thread : goal.invariant-loop-thread
invariant-loop-thread l = record {
  count : length l.parts.items ≡ l.thread;
  each : (t i : ℕ) (k : Kind) → t < l.thread → slice_get (script_of (map (λ v. v.items) l.fn.scripts) t) i ≡ Some k →
      part_at (map (λ v. v.items) l.parts.items) t i
      ≡ part_of (left_of l.fn.left) (open_behind (left_of l.fn.left) (take i (script_of (map (λ v. v.items) l.fn.scripts) t))) k;
}
