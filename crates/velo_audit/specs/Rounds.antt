-- Rounds of checking the rest of a log. Each tells the blocks of its first alarm, and their labels are left out in the next.
use Rattle.std.specs.Prelude.{◌≡◌, ⊤, ℕ, Bool, true, false, not, ◌==◌, List, [], ◌∷◌, map, filter, filter_map, flat_map, count_by, IsTrue, IsFalse, Contains, take, ◌+◌}
use Rattle.velo_events.specs.declared.event.Event.{Event}
use Rattle.velo_events.specs.Block.{owner}
use Rattle.velo_events.specs.Graph.{HasCycle, IsClosing}
use Rattle.velo_events.specs.Reordering.{IsSelfSerializable}
use Rattle.velo_traces.specs.Blocks.{block_at}
use Rattle.velo_blame.specs.Blamed.{AreBlamedAt}
use Rattle.velo_filter.specs.Left.{Omitted, label_begun, is_listed, with_labels, rest_of, place_of}

-- ---- labels

-- the label of the block that begins at the position
abbrev pub label_at : List Event → ℕ → ℕ
label_at log b = (block_at log b).label.0

-- the numbers, each where it stands first
unfoldable pub each_once : List ℕ → List ℕ
each_once [] = []
each_once (x ∷ xs) = x ∷ filter (λ y. not (y == x)) (each_once xs)

-- the labels of the log's blocks, each once
abbrev pub labels_in : List Event → List ℕ
labels_in log = each_once (filter_map (λ e. label_begun e.kind) log)

-- how many of the log's labels are not left out
abbrev pub labels_left : Omitted → List Event → ℕ
labels_left omitted log = count_by (λ l. not (omitted.labels l)) (labels_in log)

-- ---- a round

-- what a round tells, in positions of the log as read; `Told` of the code has the labels and the witness, too
pub record RoundNumbers : Type 0 where
  -- of the event that closes the first cycle of the rest
  pub closing : ℕ
  -- of the first event of its transaction in the rest
  pub transaction : ℕ
  -- of the begins of the blocks that are told, outermost first
  pub blocks : List ℕ
  -- whether these are the blocks to blame
  pub to_blame : Bool

-- the labels of these blocks
abbrev pub labels_told : List Event → RoundNumbers → List ℕ
labels_told log told = map (label_at log) told.blocks

-- the blocks that are told: those to blame or, where none is, the outermost block of the closing transaction
abbrev pub told_of : List ℕ → ℕ → List ℕ
told_of [] transaction = transaction ∷ []
told_of (b ∷ bs) transaction = b ∷ bs

abbrev pub is_some_blamed : List ℕ → Bool
is_some_blamed [] = false
is_some_blamed (b ∷ bs) = true

-- the rest has a cycle, and this is told of its first alarm
pub record IsRound (log : List Event) (omitted : Omitted) (told : RoundNumbers) : Type 0 where
  -- the closing position, and the begins of the blocks to blame, in the rest
  pub position : ℕ
  pub blamed : List ℕ
  pub closes : IsClosing (rest_of omitted log) position
  pub are_blamed : AreBlamedAt (rest_of omitted log) position blamed
  -- and in the log as read
  pub closing : told.closing ≡ place_of omitted log position
  pub transaction : told.transaction ≡ place_of omitted log (owner (rest_of omitted log) position)
  pub blocks : told.blocks ≡ map (place_of omitted log) (told_of blamed (owner (rest_of omitted log) position))
  pub to_blame : told.to_blame ≡ is_some_blamed blamed

-- ---- all rounds

-- what is left out after the rounds
unfoldable pub left_after : List Event → Omitted → List RoundNumbers → Omitted
left_after log omitted [] = omitted
left_after log omitted (told ∷ later) = left_after log (with_labels omitted (labels_told log told)) later

-- each round is one of the rest after those before it, and after the last the rest has no cycle
unfoldable pub Rounds : List Event → Omitted → List RoundNumbers → Type 0
Rounds log omitted [] = ¬ HasCycle (rest_of omitted log)
Rounds log omitted (told ∷ later) = IsRound log omitted told × Rounds log (with_labels omitted (labels_told log told)) later

-- no other list has the rounds of the log
abbrev pub AreTheOnlyRounds : List Event → Omitted → List RoundNumbers → Type 0
AreTheOnlyRounds log omitted rounds = (others : List RoundNumbers) → Rounds log omitted others → others ≡ rounds

-- each is a round of the rest after those before it
unfoldable pub FirstRounds : List Event → Omitted → List RoundNumbers → Type 0
FirstRounds log omitted [] = ⊤
FirstRounds log omitted (told ∷ later) = IsRound log omitted told × FirstRounds log (with_labels omitted (labels_told log told)) later

-- the labels that are told, each in the first round that tells it
abbrev pub labels_found : List Event → List RoundNumbers → List ℕ
labels_found log rounds = each_once (flat_map (labels_told log) rounds)

-- each of these labels is one of the log's blocks, and was not left out
pub record AreFound (log : List Event) (omitted : Omitted) (labels : List ℕ) : Type 0 where
  pub each : (l : ℕ) → IsTrue (is_listed labels l) → IsTrue (is_listed (labels_in log) l) × IsFalse (omitted.labels l)

-- each block that is told as blamed is not self-serializable in the log as read, up to the closing event
abbrev pub BlamesAsRead : List Event → RoundNumbers → Type 0
BlamesAsRead log told = IsTrue told.to_blame → (b : ℕ) → Contains told.blocks b → ¬ IsSelfSerializable (take (told.closing + 1) log) b
