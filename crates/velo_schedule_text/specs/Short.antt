-- The short text of a schedule: the longest stretches of turns of one thread.
use Rattle.std.specs.Prelude.{ℕ, suc, ◌==◌, List, [], ◌∷◌, if◌then◌else◌}
use Rattle.velo_events.specs.declared.event.ThreadId.{ThreadId}
use Rattle.velo_schedule_text.specs.declared.turns.Turns.{Turns}
use Rattle.velo_schedule_text.specs.Schedule.{words_text}

abbrev pub one_turn : ThreadId → Turns
one_turn t = record { thread = t; count = 1 }

-- a turn before these: one more of the first stretch, where that is of the same thread
abbrev pub with_turn : ThreadId → List Turns → List Turns
with_turn t [] = one_turn t ∷ []
with_turn t (turns ∷ rest) =
    if t.0 == turns.thread.0 then record { thread = t; count = suc turns.count } ∷ rest else one_turn t ∷ (turns ∷ rest)

abbrev pub stretches_of : List ThreadId → List Turns
stretches_of [] = []
stretches_of (t ∷ schedule) = with_turn t (stretches_of schedule)

abbrev pub short_text : List ThreadId → List ℕ
short_text schedule = words_text (stretches_of schedule)
