use Rattle.std.proofs.Common.{◌∙◌, sym}
use Rattle.velo_worker.proofs.OnListing.{at-end}
use Rattle.velo_worker.proofs.listing.event_at.Goals as goal

pub returns : goal.returns
returns c = sym (at-end c.loop-statement.left c.loop-statement.before (sym c.next.ensures ∙ c.in_default.is)) ∙ c.loop-statement.invariant
