-- What is told of an alarm. Private contracts cite these words.
use Rattle.std.specs.Prelude.{◌≡◌, ℕ, Bool, List, map, slice_index}
use Rattle.velo_events.specs.declared.event.Event.{Event}
use Rattle.velo_traces.specs.declared.block.Block.{Block}
use Rattle.velo_traces.specs.Blocks.{block_at}
use Rattle.velo_blame.specs.Blamed.{begins_of}
use Rattle.velo_world.specs.declared.analysis.Alarm.{Alarm}
use Rattle.velo_audit.specs.Rounds.{told_of, is_some_blamed}
use Rattle.velo_audit.specs.Witness.{block_as_read, WitnessTells}
use Rattle.velo_audit.specs.Rounds as rounds
use Rattle.velo_audit.specs.declared.told.Told.{Told}

-- what a round tells, without the labels
abbrev pub numbers_of : Told → rounds.RoundNumbers
numbers_of told = record { closing = told.closing; transaction = told.transaction; blocks = begins_of told.blocks.items; to_blame = told.to_blame }

-- the blocks to blame or, where none is, the one with which the closing transaction begins, at their places in the log as read
abbrev pub blocks_told : List Event → List ℕ → Alarm → List Block
blocks_told what places alarm = map (λ b. block_as_read (slice_index places) (block_at what b)) (told_of (begins_of alarm.blamed.items) alarm.transaction)

-- this is told of the alarm of the rest, whose positions stand for these places
pub record Tells (with_witness : Bool) (what : List Event) (places : List ℕ) (alarm : Alarm) (told : Told) : Type 0 where
  pub closing : told.closing ≡ slice_index places alarm.position
  pub transaction : told.transaction ≡ slice_index places alarm.transaction
  pub blocks : told.blocks.items ≡ blocks_told what places alarm
  pub to_blame : told.to_blame ≡ is_some_blamed (begins_of alarm.blamed.items)
  pub witness : WitnessTells with_witness what places alarm told.witness
