use Rattle.std.proofs.Common.{arith}
use Rattle.velo_ledger.proofs.Complete.{all-alone, alone-all, same_answer}
use Rattle.velo_ledger.proofs.book.gather.Goals as goal

pub returns-clause-sum : goal.returns-clause-sum
returns-clause-sum c =
    same_answer c.gather_both-2.result _ _ (alone-all c.args.book.now c.args.shares.now) (all-alone c.args.book.now c.args.shares.now) (omega arith) (rw c.nowhere.ensures at c.gather_both-2.ensures.sum)
