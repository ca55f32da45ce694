use Rattle.std.proofs.Common.{ap}
use Rattle.velo_ledger.proofs.share.Share.events.Goals as goal

pub returns : goal.returns
returns c = ap (λ share. share.tally.events) c.self.view_is
