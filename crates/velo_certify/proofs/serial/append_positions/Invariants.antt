use Rattle.std.proofs.Common.{◌≡◌, ◌-◌, ◌++◌, length}
use Rattle.velo_certify.proofs.OnSerial.{positions_below}
use Rattle.velo_certify.proofs.OnThreads.{Follows}
use Rattle.velo_certify.proofs.serial.append_positions.Given as goal

abbrev pub invariant-loop-at : goal.invariant-loop-at
invariant-loop-at l = record {
  follows : Follows l.events l.a l.at;
  items : l.order.items ≡ l.fn.order.items ++ positions_below l.events l.a l.at;
}

abbrev pub decreases-loop-at : goal.decreases-loop-at
decreases-loop-at l = length l.events - l.at
