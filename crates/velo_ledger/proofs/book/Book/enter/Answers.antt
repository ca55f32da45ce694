use Rattle.std.proofs.Common.{arith, rules}
use Rattle.std.proofs.lemmas.Grind.{elements}
use Rattle.velo_ledger.proofs.book.Book.enter.Goals as goal

pub returns-clause-book : goal.returns-clause-book
returns-clause-book c = search rules

pub returns-clause-fit : goal.returns-clause-fit
returns-clause-fit c = grind (arith, elements)
