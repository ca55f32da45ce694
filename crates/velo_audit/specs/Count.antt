-- How many labels are counted in the first events of a log. Private contracts cite these words.
use Rattle.std.specs.Prelude.{◌≡◌, ℕ, ◌≤◌, Bool, not, List, take, filter_map, count_by}
use Rattle.velo_events.specs.declared.event.Event.{Event}
use Rattle.velo_filter.specs.Left.{Omitted, label_begun, is_listed}
use Rattle.velo_audit.specs.Rounds.{each_once}

-- the labels begun, each time
abbrev pub labels_begun : List Event → List ℕ
labels_begun log = filter_map (λ e. label_begun e.kind) log

-- the labels begun in the first k events are seen, and of these so many are not left out
pub record IsCountedTo (omitted : Omitted) (log : List Event) (k : ℕ) (seen : ℕ → Bool) (count : ℕ) : Type 0 where
  pub few : count ≤ k
  pub are_seen : (l : ℕ) → seen l ≡ is_listed (labels_begun (take k log)) l
  pub is_count : count ≡ count_by (λ l. not (omitted.labels l)) (each_once (labels_begun (take k log)))
