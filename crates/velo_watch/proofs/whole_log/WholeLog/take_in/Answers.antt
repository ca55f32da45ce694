use Rattle.std.proofs.Common.{◌∙◌, arith, sym}
use Rattle.velo_watch.proofs.OnEndless.{next_of}
use Rattle.velo_watch.proofs.whole_log.WholeLog.take_in.Goals as goal

pub take_in-requires : goal.take_in-requires
take_in-requires c =
    let log = c.args.self.now.trace.events in
    next_of c.args.self.now.state log c.args.event.now c.requires (sym (c.flaw.ensures log c.requires) ∙ c.in-None.is)
    (let at = c.len-position.ensures in let below = c.if-position-limit.false in let fits = c.ranges.limit.fits in omega (arith, at, below, fits))
