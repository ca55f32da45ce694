use Rattle.std.proofs.Common.{◌≡◌, ◌<◌, ◌≤◌, ℕ, length, slice_index_or}
use Rattle.velo_search.specs.Marks.{blank_mark, IsMarkAfter}
use Rattle.velo_search.proofs.marks.Marks.spread.Given as goal

abbrev pub invariant-loop-i : goal.invariant-loop-i
invariant-loop-i l = record {
  bounds : l.self.bounds ≡ l.fn.self.bounds;
  alarmed : l.self.alarmed ≡ l.fn.self.alarmed;
  length : length l.self.marks.items ≡ length l.fn.self.marks.items;
  done : (k : ℕ) → k < l.i → IsMarkAfter l.fn.thread.0 l.fn.behind l.fn.inside (slice_index_or l.fn.self.marks.items k blank_mark) (slice_index_or l.self.marks.items k blank_mark);
  left : (k : ℕ) → l.i ≤ k → slice_index_or l.self.marks.items k blank_mark ≡ slice_index_or l.fn.self.marks.items k blank_mark;
}
