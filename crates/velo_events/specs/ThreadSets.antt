-- Sets of threads.
use Rattle.std.specs.Prelude.{ℕ, ◌*◌, ◌%◌, ◌^◌, Bool, ◌==◌}
use Rattle.std.specs.Int.{bit_at, bit_not}
use Rattle.std.specs.Int.RustNames.{bit_or}
use Rattle.std.specs.Int.Bits.{bit_and}
use mir.Syntax.{w64}
use Rattle.velo_events.specs.declared.event.ThreadId.{ThreadId}
use Rattle.velo_events.specs.declared.thread_set.ThreadSet.{ThreadSet}

-- the thread is a member: its bit is up
abbrev pub has_thread : ThreadSet → ℕ → Bool
has_thread set u = bit_at set.0 u == 1

-- the set has no members
abbrev pub has_none : ThreadSet → Bool
has_none set = set.0 == 0

abbrev pub no_threads : ThreadSet
no_threads = record { 0 = 0 }

-- the set with the thread
abbrev pub with_thread : ThreadId → ThreadSet → ThreadSet
with_thread t set = record { 0 = bit_or set.0 (1 * 2 ^ t.0 % 2 ^ 64) }

-- the set without it
abbrev pub without_thread : ThreadId → ThreadSet → ThreadSet
without_thread t set = record { 0 = bit_and set.0 (bit_not w64 (1 * 2 ^ t.0 % 2 ^ 64)) }
