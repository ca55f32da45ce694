-- The schedules that a seed draws.
use Rattle.std.specs.Prelude.{ℕ, zero, suc, ◌+◌, ◌-◌, ◌*◌, ◌%◌, ◌^◌, List, [], ◌∷◌, ◌++◌, filter_map, min, nat_lt, sum_by, Option, Some, None, if◌then◌else◌}
use Rattle.rand_core.specs.Stream.{Stream, next_u64}
use Rattle.rand_core.specs.Steps.{stream_of, steps_u64_high}
use Rattle.rand_xoshiro.specs.SplitMix64.{splitmix_seed}
use Rattle.rand_xoshiro.specs.Xoshiro256.{of_seed, plus_plus}
use Rattle.velo_events.specs.declared.event.ThreadId.{ThreadId}
use Rattle.velo_schedule_text.specs.declared.limits.TheConstants.{MAX_TURNS}
use Rattle.velo_workload.specs.Program.{Program}
use Rattle.velo_worker.specs.Counts.{body_events}

-- ---- words

-- what xoshiro256++ answers from a state on
abbrev pub stream : List ℕ → Stream
stream state = stream_of (steps_u64_high plus_plus) state

-- and from the state that a seed gives
abbrev pub stream_of_seed : ℕ → Stream
stream_of_seed seed = stream (of_seed (splitmix_seed 32 seed))

-- what is left of it after n words of 64 bits
unfoldable pub behind_words : ℕ → Stream → Stream
behind_words zero s = s
behind_words (suc n) s = (next_u64 (behind_words n s)).1

-- the first n words
unfoldable pub words : ℕ → Stream → List ℕ
words zero s = []
words (suc n) s = words n s ++ (next_u64 (behind_words n s)).0 ∷ []

-- ---- schedules

-- the thread that a word stands for: its rest by the number of threads; none for the greatest
-- words, which would favour some
abbrev pub thread_of : ℕ → ℕ → Option ThreadId
thread_of threads word =
    if nat_lt word (2 ^ 64 - 1 - (2 ^ 64 - 1) % threads) then Some (record { 0 = word % threads }) else None

-- those of the first n words
abbrev pub drawn : ℕ → ℕ → Stream → List ThreadId
drawn threads n s = filter_map (thread_of threads) (words n s)

-- so many schedules, each of the next n words
unfoldable pub all_drawn : ℕ → ℕ → ℕ → Stream → List (List ThreadId)
all_drawn zero threads n s = []
all_drawn (suc runs) threads n s = all_drawn runs threads n s ++ drawn threads n (behind_words (runs * n) s) ∷ []

-- as many turns as the bodies have events, times the threads, and no more than a schedule may have
abbrev pub turns_for : Program → ℕ
turns_for program = min (min (sum_by body_events program.bodies) (2 ^ 64 - 1) * program.bounds.threads) MAX_TURNS

-- the schedules that the seed draws for so many runs of the program
abbrev pub schedules_of_seed : Program → ℕ → ℕ → List (List ThreadId)
schedules_of_seed program seed runs = all_drawn runs program.bounds.threads (turns_for program) (stream_of_seed seed)
