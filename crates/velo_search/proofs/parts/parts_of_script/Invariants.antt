use Rattle.std.proofs.Common.{◌≡◌, ◌<◌, ℕ, length, reverse, take, Some}
use Rattle.std.specs.Prelude.{slice_get}
use Rattle.velo_events.specs.declared.event.Kind.{Kind}
use Rattle.velo_filter.specs.Tables.{left_of}
use Rattle.velo_search.specs.Parts.{open_behind, part_of}
use Rattle.velo_search.proofs.parts.parts_of_script.Given as goal

abbrev pub invariant-loop-place : goal.invariant-loop-place
invariant-loop-place l = record {
  count : length l.parts.items ≡ l.place;
  open_there : reverse l.blocks.outs.items ≡ open_behind (left_of l.fn.left) (take l.place l.fn.script);
  each : (i : ℕ) (k : Kind) → i < l.place → slice_get l.fn.script i ≡ Some k →
      slice_get l.parts.items i ≡ Some (part_of (left_of l.fn.left) (open_behind (left_of l.fn.left) (take i l.fn.script)) k);
}
