use Rattle.std.proofs.Common.{ap}
use Rattle.velo_ledger.proofs.share.Share.last.Goals as goal

pub returns : goal.returns
returns c = ap (λ share. share.tally.last) c.self.view_is
