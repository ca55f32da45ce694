use Rattle.std.proofs.Common.{ap}
use Rattle.velo_ledger.proofs.share.Share.next.Goals as goal

pub returns : goal.returns
returns c = ap (λ share. share.tally.next) c.self.view_is
