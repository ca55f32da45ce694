use Rattle.std.proofs.Common.{◌≡◌, ◌≤◌, ◌<◌, ◌+◌, ℕ, ◌*◌, take, sum_by}
use Rattle.velo_events.specs.declared.limits.TheConstants.{MAX_EVENTS}
use Rattle.velo_ledger.specs.Shares.{events_in_all, share_in}
use Rattle.velo_ledger.specs.Book.{PlacesFit}
use Rattle.velo_ledger.proofs.book.gather_both.Given as goal

abbrev pub invariant-loop-place : goal.invariant-loop-place
invariant-loop-place l = record {
  few : l.sum ≤ l.place * MAX_EVENTS;
  sum : l.sum ≡ events_in_all (take l.place l.kept) + events_in_all (take l.place l.given);
  rows : l.sum ≡ sum_by (λ row. row.events) (take l.place l.book.rows);
  fit : (t : ℕ) → t < l.place → PlacesFit l.book t (share_in l.kept t) (share_in l.given t);
}
