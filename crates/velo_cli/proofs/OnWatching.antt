-- What a watch of what is left of a log rests on.
use Rattle.std.proofs.Common.{Result, Ok, Err}
use Rattle.std.specs.Prelude.{IfOk}
use Rattle.velo_filter.specs.Left.{Omitted}
use Rattle.velo_watch.specs.RestUnderWay.{CanGoOn}
use Rattle.velo_watch.specs.declared.fault.WatchFault.{WatchFault}
use Rattle.velo_watch.specs.declared.rest_watch.RestWatch.{RestWatch}

-- what may go on whatever is left out may go on
pub can_start : (omitted : Omitted) (r : Result RestWatch WatchFault) → IfOk r (λ watch. (left : Omitted) → CanGoOn left watch) → IfOk r (CanGoOn omitted)
can_start omitted (Ok watch) can = can omitted
can_start omitted (Err f) can = tt
