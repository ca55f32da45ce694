-- What a search returns: predictions of a log with a cycle.
use Rattle.std.specs.Prelude.{◌≡◌, ◌⊎◌, ◌≤◌, ⊤, ℕ, Bool, true, List, [], ◌∷◌, ◌++◌, Option, Some, None, length, map, take, slice_get, IsTrue, IsFalse}
use Rattle.velo_events.specs.declared.config.Bounds.{Bounds}
use Rattle.velo_events.specs.declared.limits.TheConstants.{MAX_EVENTS}
use Rattle.velo_events.specs.declared.event.Event.{Event}
use Rattle.velo_traces.specs.declared.block.Block.{Block}
use Rattle.velo_filter.specs.Left.{Omitted, is_listed, nothing, place_of, rest_of, with_labels}
use Rattle.velo_audit.specs.Audit.{TellsTruly}
use Rattle.velo_audit.specs.Rounds.{IsRound}
use Rattle.velo_audit.specs.Tells.{numbers_of}
use Rattle.velo_audit.specs.Witness.{HasWitness}
use Rattle.velo_predict.specs.Predictions.{PredictsCycle}
use Rattle.velo_delays.specs.declared.judged.PredictedCycle.{PredictedCycle}
use Rattle.velo_delays.specs.Differing.{AreDiffering}
use Rattle.velo_delays.specs.Sources.{AreSourcesAsRead}

-- A trace that the log foretells, with a cycle. The log is what is left of one that was read, in which its events have these places
pub record IsFound (bounds : Bounds) (log : List Event) (place : ℕ → ℕ) (found : PredictedCycle) : Type 0 where
  pub foretold : PredictsCycle bounds log found.trace.events
  pub short : length found.trace.events ≤ MAX_EVENTS
  -- this an audit of the trace tells first: its closing event, and the blocks that are to blame there
  pub first : IsRound found.trace.events nothing (numbers_of found.told)
  pub to_blame : IsTrue found.told.to_blame
  pub truly : TellsTruly found.trace.events found.told
  pub witness : HasWitness true found.trace.events nothing found.told.closing found.told.witness
  -- and these reads have another value than in this log
  pub differing : AreDiffering log found.trace.events found.differing.items
  -- and here its events stand in the log as read
  pub sources : AreSourcesAsRead log place found.trace.events found.sources.items

-- the same of what is left of a log
abbrev pub IsFoundIn : Bounds → List Event → Omitted → PredictedCycle → Type 0
IsFoundIn bounds log omitted found = IsFound bounds (rest_of omitted log) (place_of omitted log) found

-- ---- one after another

abbrev pub labels_of : List Block → List ℕ
labels_of blocks = map (λ (b : Block). b.label.0) blocks

-- the labels that it blames
abbrev pub labels_blamed : PredictedCycle → List ℕ
labels_blamed found = labels_of found.told.blocks.items

-- what is left out behind these: the labels that they blame as well
unfoldable pub left_out_behind : Omitted → List PredictedCycle → Omitted
left_out_behind omitted [] = omitted
left_out_behind omitted (found ∷ rest) = left_out_behind (with_labels omitted (labels_blamed found)) rest

-- one of the numbers does not pass the test
pub record HasNew (is_old : ℕ → Bool) (numbers : List ℕ) : Type 0 where
  pub number : ℕ
  pub listed : IsTrue (is_listed numbers number)
  pub new : IsFalse (is_old number)

-- It is found in what is left of the log where the labels that the first `taken` before it blame are left out, too; and it
-- blames a label that was not left out and that none of those before it blames
pub record IsFoundAfter (bounds : Bounds) (log : List Event) (omitted : Omitted) (before : List PredictedCycle) (found : PredictedCycle) : Type 0 where
  pub taken : ℕ
  pub is_found : IsFoundIn bounds log (left_out_behind omitted (take taken before)) found
  pub blames_new : HasNew (left_out_behind omitted before).labels (labels_blamed found)

-- each of these is found after those before it, so none is told twice
pub record AreFoundIn (bounds : Bounds) (log : List Event) (omitted : Omitted) (founds : List PredictedCycle) : Type 0 where
  pub each : (i : ℕ) (found : PredictedCycle) → slice_get founds i ≡ Some found → IsFoundAfter bounds log omitted (take i founds) found

-- ---- on the way. Private contracts cite these words

-- each of these is found in the log, and blames a label that is not left out behind those before it
unfoldable pub AreFoundInTurn : Bounds → List Event → (ℕ → ℕ) → Omitted → List PredictedCycle → Type 0
AreFoundInTurn bounds log place omitted [] = ⊤
AreFoundInTurn bounds log place omitted (found ∷ rest) =
    (IsFound bounds log place found × HasNew omitted.labels (labels_blamed found)) × AreFoundInTurn bounds log place (with_labels omitted (labels_blamed found)) rest

-- some more are found in the log, and what they blame is left out
pub record GoesOn (bounds : Bounds) (log : List Event) (place : ℕ → ℕ) (old new : Omitted) (before after : List PredictedCycle) : Type 0 where
  pub more : List PredictedCycle
  pub is_longer : after ≡ before ++ more
  pub are_found : AreFoundInTurn bounds log place old more
  pub behind : new ≡ left_out_behind old more

-- the same of what is left of the log
abbrev pub GoesOnIn : Bounds → List Event → Omitted → Omitted → List PredictedCycle → List PredictedCycle → Type 0
GoesOnIn bounds log old new before after = GoesOn bounds (rest_of old log) (place_of old log) old new before after

-- nothing is taken in, or what was found, if it blames a label that is not left out
abbrev pub TakesIn : Omitted → Omitted → List PredictedCycle → List PredictedCycle → Option PredictedCycle → Type 0
TakesIn old new before after None = (new ≡ old) × (after ≡ before)
TakesIn old new before after (Some found) =
    ((new ≡ old) × (after ≡ before))
    ⊎ (HasNew old.labels (labels_blamed found) × (new ≡ with_labels old (labels_blamed found)) × (after ≡ before ++ found ∷ []))
