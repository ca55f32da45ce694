-- What a state tells, by its alarm and its threads.
use Rattle.std.specs.Prelude.{Bool, false, not, ◌&&◌, ◌||◌, if◌then◌else◌}
use Rattle.velo_search.specs.declared.found.Found.{Found}
use Rattle.velo_search.specs.declared.seen.ThreadsSeen.{ThreadsSeen}
use Rattle.velo_search.specs.Faults.{Fault, Cycle, Stuck, Refusing}

abbrev pub nothing : Found
nothing = record { alarm = false; stuck = false; refused = false }

abbrev pub is_told : Bool → ThreadsSeen → Fault → Bool
is_told alarmed seen Cycle = alarmed
is_told alarmed seen Stuck = seen.waits && not (seen.acts || seen.refused)
is_told alarmed seen Refusing = seen.refused

abbrev pub found_after : Found → Bool → ThreadsSeen → Found
found_after found alarmed seen = record {
  alarm = found.alarm || is_told alarmed seen Cycle;
  stuck = found.stuck || is_told alarmed seen Stuck;
  refused = found.refused || is_told alarmed seen Refusing;
}

-- a search that ends at the first finding has one
abbrev pub has_ended : Bool → Found → Bool
has_ended first found = first && (found.alarm || found.stuck || found.refused)

-- one of them alone: the alarm, else what is stuck, else the refusal
abbrev pub foremost : Found → Found
foremost found = record {
  alarm = found.alarm;
  stuck = found.stuck && not found.alarm;
  refused = found.refused && not (found.alarm || found.stuck);
}

-- what is shown of what was found: with `first` one alone
abbrev pub shown_of : Bool → Found → Found
shown_of first found = if first then foremost found else found
