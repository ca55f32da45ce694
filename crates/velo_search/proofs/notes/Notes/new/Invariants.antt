use Rattle.std.proofs.Common.{◌≡◌, ℕ, [], length, map}
use Rattle.std.specs.Prelude.{slice_index_or}
use Rattle.velo_search.proofs.notes.Notes.new.Given as goal

abbrev pub invariant-loop-list : goal.invariant-loop-list
invariant-loop-list l = record {
  count : length l.lists.items ≡ l._list;
  empty : (n : ℕ) → slice_index_or (map (λ v. v.items) l.lists.items) n [] ≡ [];
}
