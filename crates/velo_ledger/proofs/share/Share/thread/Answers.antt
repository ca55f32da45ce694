use Rattle.std.proofs.Common.{ap}
use Rattle.velo_ledger.proofs.share.Share.thread.Goals as goal

pub returns : goal.returns
returns c = ap (λ share. share.thread) c.self.view_is
