use Rattle.std.proofs.Common.{ap}
use Rattle.velo_ledger.proofs.share.Share.run.Goals as goal

pub returns : goal.returns
returns c = ap (λ share. share.run) c.self.view_is
