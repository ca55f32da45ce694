-- The labels that an audit found, each with the counts of its blocks.
use Rattle.std.specs.Prelude.{◌≡◌, ℕ, ◌+◌, List, [], ◌∷◌, ◌++◌, map, All}
use Rattle.velo_events.specs.declared.event.Event.{Event}
use Rattle.velo_traces.specs.declared.block.Block.{Block}
use Rattle.velo_audit.specs.Rounds.{each_once}
use Rattle.velo_audit.specs.declared.told.Told.{Told}
use Rattle.velo_audit.specs.Tally.{IsTally}
use Rattle.velo_finding.specs.declared.entries.Entry.{Entry}

-- a label, and the round that found it
pub record Found : Type 0 where
  pub label : ℕ
  pub round : ℕ

-- the labels of the blocks, each once, where it comes first
abbrev pub found_in : ℕ → List Block → List Found
found_in round blocks = map (λ l. record { label = l; round = round }) (each_once (map (λ block. block.label.0) blocks))

-- those of the rounds, one round after another, counted from n
unfoldable pub found_from : ℕ → List Told → List Found
found_from n [] = []
found_from n (told ∷ rest) = found_in n told.blocks.items ++ found_from (n + 1) rest

abbrev pub found_by : Entry → Found
found_by entry = record { label = entry.label.0; round = entry.round }

-- these were found, one after another, and each has the counts of its blocks in the log
pub record AreEntries (log : List Event) (found : List Found) (entries : List Entry) : Type 0 where
  pub these : map found_by entries ≡ found
  pub counted : All (λ entry. IsTally log entry.label.0 entry.tally) entries

-- these are listed of what the rounds found
abbrev pub IsListed : List Event → List Told → List Entry → Type 0
IsListed log rounds entries = AreEntries log (found_from 0 rounds) entries
