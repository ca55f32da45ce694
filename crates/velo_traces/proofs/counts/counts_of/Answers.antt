use Rattle.velo_traces.proofs.OnRows.{AllHavePlaces-next}
use Rattle.velo_traces.proofs.counts.counts_of.Goals as goal

pub loop-i-preserved : goal.loop-i-preserved
loop-i-preserved c =
    let more = c.with-counts.ensures.more in
    AllHavePlaces-next c.loop-i.counts.threads c.loop-i.counts.cells c.with-counts.result.threads c.with-counts.result.cells more.threads more.cells c.args.events.now c.loop-i.i _ c.loop-i-test.true c.loop-i.invariant c.with-counts.ensures.places
