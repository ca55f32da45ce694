-- How many transactions there are.
use Rattle.std.specs.Prelude.{ℕ, zero, suc, ◌==◌, if◌then◌else◌, List, length}
use Rattle.velo_events.specs.declared.event.Event.{Event}
use Rattle.velo_events.specs.Block.{owner}

-- how many of the first n positions are the first ones of their transactions
abbrev pub transactions_before : List Event → ℕ → ℕ
transactions_before trace zero = zero
transactions_before trace (suc n) = if owner trace n == n then suc (transactions_before trace n) else transactions_before trace n

-- the number of transactions of the trace
abbrev pub transactions_of : List Event → ℕ
transactions_of trace = transactions_before trace (length trace)
