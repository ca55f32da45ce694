-- What is left of the first events of a log. Private contracts cite these words.
use Rattle.std.specs.Prelude.{◌≡◌, ℕ, not, List, filter, filter_map, length, slice_get}
use Rattle.std.specs.List.{range_with_len}
use Rattle.velo_events.specs.declared.config.Bounds.{Bounds}
use Rattle.velo_events.specs.declared.event.Event.{Event}
use Rattle.velo_events.specs.WellFormed.{IsWellFormed}
use Rattle.velo_filter.specs.Left.{Omitted, is_left_out}
use Rattle.velo_filter.specs.Marks.{AreMarks}
use Rattle.velo_filter.specs.declared.thinned.Thinned.{Thinned}

-- within some bounds the log can come about
pub record CanComeAbout (log : List Event) : Type 0 where
  pub bounds : Bounds
  pub well_formed : IsWellFormed bounds log

-- the positions below n that stay, and their events
abbrev pub first_places : Omitted → List Event → ℕ → List ℕ
first_places omitted log n = filter (λ i. not (is_left_out omitted log i)) (range_with_len 0 n)

abbrev pub first_of_rest : Omitted → List Event → ℕ → List Event
first_of_rest omitted log n = filter_map (slice_get log) (first_places omitted log n)

-- the events before position n are thinned, and the marks are those there
pub record IsThinnedTo (omitted : Omitted) (log : List Event) (n : ℕ) (thinned : Thinned) (rows : List ℕ) : Type 0 where
  pub events : thinned.trace.events ≡ first_of_rest omitted log n
  pub places : thinned.places.items ≡ first_places omitted log n
  pub as_many : length rows ≡ 256
  pub marks : AreMarks omitted log n rows
