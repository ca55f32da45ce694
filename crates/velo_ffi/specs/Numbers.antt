-- Numbers as C hands them, and which of them are in their range.
use Rattle.std.specs.Prelude.{◌≢◌, ◌<◌, ◌⊎◌, ℕ, nat_lt, Option, Some, None, if◌then◌else◌}
use Rattle.velo_events.specs.Config.{first_bad_value}
use Rattle.velo_events.specs.declared.config.Bounds.{Bounds}
use Rattle.velo_events.specs.declared.event.LockId.{LockId}
use Rattle.velo_events.specs.declared.event.ThreadId.{ThreadId}
use Rattle.velo_events.specs.declared.event.VarId.{VarId}

-- the thread, variable or lock of a number, if the type of such numbers has it
abbrev pub thread_of : ℕ → Option ThreadId
thread_of n = if nat_lt n 256 then Some (record { 0 = n }) else None

abbrev pub variable_of : ℕ → Option VarId
variable_of n = if nat_lt n 65536 then Some (record { 0 = n }) else None

abbrev pub lock_of : ℕ → Option LockId
lock_of n = if nat_lt n 65536 then Some (record { 0 = n }) else None

-- one of the numbers that a run is opened with is out of its range
abbrev pub AreBad : Bounds → ℕ → ℕ → Type 0
AreBad bounds events nodes = (65535 < bounds.variables) ⊎ (first_bad_value bounds events nodes ≢ None)
