-- The rest of a log where the blocks of some labels are dissolved, and the operations on some locks and variables left out.
use Rattle.std.specs.Prelude.{ℕ, ◌+◌, ◌<◌, ◌≤◌, Bool, false, not, ◌&&◌, ◌||◌, ◌==◌, List, Option, Some, None, filter, filter_map, length, take, slice_get, slice_index}
use Rattle.std.specs.List.{list_any}
use Rattle.velo_events.specs.declared.event.Event.{Event}
use Rattle.velo_events.specs.declared.event.Kind.{Kind}
use Rattle.velo_events.specs.declared.event.Kind.TheVariants.{Begin}
use Rattle.velo_events.specs.Event.{thread_of, lock_of, variable_of}
use Rattle.velo_events.specs.Block.{any_below, passes_at, positions, is_open_at}
use Rattle.velo_events.specs.Reordering.{IsSelfSerializable}

-- ---- what is to be left out

-- what is left out: labels, locks and variables, each as a test on their numbers
pub record Omitted : Type 0 where
  pub labels : ℕ → Bool
  pub locks : ℕ → Bool
  pub variables : ℕ → Bool

abbrev pub nothing : Omitted
nothing = record { labels = λ l. false; locks = λ m. false; variables = λ x. false }

-- the number is one of the list
unfoldable pub is_listed : List ℕ → ℕ → Bool
is_listed xs n = list_any (λ x. n == x) xs

-- these labels are left out as well
abbrev pub with_labels : Omitted → List ℕ → Omitted
with_labels omitted labels = record omitted { labels = λ l. omitted.labels l || is_listed labels l }

-- this lock, this variable
abbrev pub with_number : (ℕ → Bool) → ℕ → ℕ → Bool
with_number test n = λ k. test k || (k == n)

abbrev pub with_lock : Omitted → ℕ → Omitted
with_lock omitted m = record omitted { locks = with_number omitted.locks m }

abbrev pub with_variable : Omitted → ℕ → Omitted
with_variable omitted x = record omitted { variables = with_number omitted.variables x }

-- ---- which positions are left out

-- there is a number, and it passes the test
abbrev pub is_among : (ℕ → Bool) → Option ℕ → Bool
is_among test (Some n) = test n
is_among test None = false

-- the label of the block that the operation begins
abbrev pub label_begun : Kind → Option ℕ
label_begun (Begin l) = Some l.0
label_begun _ = None

-- the event begins a block with such a label
abbrev pub begins_such : Omitted → Event → Bool
begins_such omitted e = is_among omitted.labels (label_begun e.kind)

-- the event is on such a lock, alone or shared, or on such a variable
abbrev pub is_on_such : Omitted → Event → Bool
is_on_such omitted e = is_among omitted.locks (lock_of e.kind) || is_among omitted.variables (variable_of e.kind)

-- a block with such a label begins at position b
unfoldable pub is_dissolved : Omitted → List Event → ℕ → Bool
is_dissolved omitted log b = passes_at log (begins_such omitted) b

-- position i ends the block that begins at b: for its thread the block is open before it, and not behind it
unfoldable pub ends_at : List Event → ℕ → ℕ → Bool
ends_at log b i = passes_at log (λ e. is_open_at log (thread_of e) b i && not (is_open_at log (thread_of e) b (i + 1))) i

-- position i is left out: it begins such a block, or ends one, or is on such a lock or variable
unfoldable pub is_left_out : Omitted → List Event → ℕ → Bool
is_left_out omitted log i =
    is_dissolved omitted log i
    || any_below i (λ b. is_dissolved omitted log b && ends_at log b i)
    || passes_at log (is_on_such omitted) i

-- ---- the rest

-- the positions that are not left out, rising
unfoldable pub places_of : Omitted → List Event → List ℕ
places_of omitted log = filter (λ i. not (is_left_out omitted log i)) (positions log)

-- the rest of the log: the events at these positions, in their order
unfoldable pub rest_of : Omitted → List Event → List Event
rest_of omitted log = filter_map (slice_get log) (places_of omitted log)

-- the position in the log as read for which position k of the rest stands
unfoldable pub place_of : Omitted → List Event → ℕ → ℕ
place_of omitted log k = slice_index (places_of omitted log) k

-- a block that is not self-serializable in the rest, up to one of its positions, is not so in the log as read, up to the position
-- for which this one stands
abbrev pub BlameIsKept : Omitted → List Event → Type 0
BlameIsKept omitted log =
    (p b : ℕ) → p < length (rest_of omitted log) → b ≤ p → ¬ IsSelfSerializable (take (p + 1) (rest_of omitted log)) b → ¬ IsSelfSerializable (take (place_of omitted log p + 1) log) (place_of omitted log b)
