use Rattle.std.proofs.Common.{◌≡◌, ◌≤◌, replicate, vec_capacity}
use Rattle.velo_ledger.specs.Tally.{blank}
use Rattle.velo_ledger.specs.Shares.{AreOpening}
use Rattle.velo_ledger.proofs.book.Book.open.Given as goal

abbrev pub invariant-loop-thread : goal.invariant-loop-thread
invariant-loop-thread l = record {
  row_room : l.threads ≤ vec_capacity l.rows;
  place_room : l.threads ≤ vec_capacity l.places;
  rows : l.rows.items ≡ replicate l.thread blank;
  opening : AreOpening l.run l.thread l.places.items;
}
