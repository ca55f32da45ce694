use Rattle.std.proofs.Common.{◌≡◌, ◌≤◌, length}
use Rattle.std.specs.Prelude.{slice_index, vec_capacity}
use Rattle.velo_traces.specs.Numbers.{HasNumbers}
use Rattle.velo_traces.specs.Places.{AllHavePlaces, sizes}
use Rattle.velo_certify.specs.Witness.{AreMarks}
use Rattle.velo_certify.proofs.witness.marks_before.Given as goal

abbrev pub invariant-loop-at : goal.invariant-loop-at
invariant-loop-at l = record {
  names : AllHavePlaces (sizes l.table) l.events (length l.events);
  numbers : HasNumbers l.events (slice_index l.marks.items) l.table;
  marks : AreMarks l.events l.begin l.marks.items;
  count : length l.marks.items ≡ l.at;
  room : l.position ≤ vec_capacity l.marks;
}
