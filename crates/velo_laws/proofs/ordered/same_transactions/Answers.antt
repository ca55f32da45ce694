use Rattle.velo_laws.proofs.OnOrderedClosing.{transaction_law}
use Rattle.velo_laws.proofs.ordered.same_transactions.Goals as goal

pub returns : goal.returns
returns c = transaction_law
