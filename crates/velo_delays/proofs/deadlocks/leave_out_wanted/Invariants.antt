use Rattle.std.proofs.Common.{◌≡◌, take}
use Rattle.velo_filter.specs.Tables.{left_of}
use Rattle.velo_delays.specs.Deadlock.{locks_of, with_numbers}
use Rattle.velo_delays.proofs.deadlocks.leave_out_wanted.Given as goal

abbrev pub invariant-loop-one : goal.invariant-loop-one
invariant-loop-one l = record { locks : (left_of l.done).locks ≡ with_numbers (left_of l.initial.done).locks (locks_of (take l.one-index l.waiting)) }
