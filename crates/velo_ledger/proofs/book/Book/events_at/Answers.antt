use Rattle.std.proofs.Common.{rules}
use Rattle.velo_ledger.proofs.book.Book.events_at.Goals as goal

pub returns-in-None-None-clause-sum : goal.returns-in-None-None-clause-sum
returns-in-None-None-clause-sum c = search rules
