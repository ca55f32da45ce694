-- What contracts see of a book and of a share.
use Rattle.std.specs.Prelude.{ℕ, List}
use Rattle.velo_events.specs.declared.event.ThreadId.{ThreadId}
use Rattle.velo_ledger.specs.declared.tally.Tally.{Tally}

-- a book: the number of the run, and a row for each thread
pub record Accounts : Type 0 where
  pub run : ℕ
  pub rows : List Tally

-- a share: the number of the run, the thread, and the tally of its events
pub record Holding : Type 0 where
  pub run : ℕ
  pub thread : ThreadId
  pub tally : Tally
