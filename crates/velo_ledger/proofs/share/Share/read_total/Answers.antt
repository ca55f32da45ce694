use Rattle.std.proofs.Common.{ap}
use Rattle.velo_ledger.proofs.share.Share.read_total.Goals as goal

pub returns : goal.returns
returns c = ap (λ share. share.tally.read_total) c.self.view_is
