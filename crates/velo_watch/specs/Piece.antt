-- The piece of a log that is kept, as a world of its own.
use Rattle.std.specs.Prelude.{◌≡◌, ℕ, ◌+◌, ◌-◌, ◌≤◌, false, List, ◌∷◌, ◌++◌, [], length, map, take, All, Option, Some, None, Result, Ok, Err}
use Rattle.velo_events.specs.declared.event.Event.{Event}
use Rattle.velo_events.specs.declared.limits.TheConstants.{MAX_EVENTS}
use Rattle.velo_events.specs.Graph.{HasCycle}
use Rattle.velo_laws.specs.Restart.{HasNoBegin}
use Rattle.velo_traces.specs.declared.block.Block.{Block}
use Rattle.velo_world.specs.declared.analysis.Alarm.{Alarm}
use Rattle.velo_world.specs.declared.log_replay.LogReplayFault.{LogReplayFault}
use Rattle.velo_world.specs.declared.log_replay.LogReplayFault.TheVariants.{Refused, WrongValue, Memory}
use Rattle.velo_world.specs.World.{IsAlarm, HoldsLiveShares}
use Rattle.velo_watch.specs.declared.piece.LogPiece.{LogPiece}
use Rattle.velo_watch.specs.declared.long.TheConstants.{MAX_WATCHED}
use Rattle.velo_watch.specs.Kept.{IsKept, CannotBeCut, WasCutInTime, IsFaultBehind}

-- the first events of a log are those of a prologue
pub record BeginsWithPrologue (log : List Event) (n : ℕ) : Type 0 where
  pub within : n ≤ length log
  pub no_begin : HasNoBegin (take n log)

-- nobody has halted the world, and it goes on after an alarm; live threads' shares stand at their places; its first events are
-- a prologue
pub record CanFollow (piece : LogPiece) : Type 0 where
  pub live : piece.world.halted ≡ false
  pub goes_on : piece.world.config.stop ≡ false
  pub ready : HoldsLiveShares piece.world piece.shares
  pub prologue : BeginsWithPrologue piece.world.log piece.prologue
  pub few : piece.before ≤ MAX_WATCHED

abbrev pub IsPieceOf : List Event → LogPiece → Type 0
IsPieceOf whole piece = IsKept piece.world.config.bounds whole piece.world.log piece.before piece.prologue

-- at least half the room behind the prologue is used
abbrev pub IsLate : LogPiece → Type 0
IsLate piece = piece.prologue + piece.world.config.events ≤ length piece.world.log + length piece.world.log

-- where it is late, the log can't be cut
abbrev pub CannotBeCutWhereLate : List Event → LogPiece → Type 0
CannotBeCutWhereLate whole piece = IsLate piece → CannotBeCut piece.world.config whole

-- whenever it was late, the log could not be cut
abbrev pub IsCutInTime : List Event → LogPiece → Type 0
IsCutInTime whole piece = WasCutInTime piece.world.config whole piece.before piece.prologue

-- Without an alarm the piece is one of the whole log, which has no cycle; else the alarm is that of the whole
abbrev pub IsJudged : List Event → LogPiece → Option Alarm → Type 0
IsJudged whole piece None = (¬ HasCycle whole) × IsPieceOf whole piece
IsJudged whole piece (Some alarm) = IsAlarm whole alarm

-- an event more, and the alarm if it raises one; or why it does not come next
abbrev pub Follows : List Event → Event → LogPiece → Result (Option Alarm) LogReplayFault → LogPiece → Type 0
Follows whole e old (Ok alarm) new = IsJudged (whole ++ e ∷ []) new alarm
Follows whole e old (Err fault) new = IsFaultBehind old.world.config whole e fault

-- ---- positions. Private contracts cite these words

-- a position of the piece in the whole log, of which so many events stand before the cut, where so long is the prologue
abbrev pub in_whole : ℕ → ℕ → ℕ → ℕ
in_whole before prologue p = before + (p - prologue)

abbrev pub block_in_whole : ℕ → ℕ → Block → Block
block_in_whole before prologue block = record block { first = in_whole before prologue block.first }

-- the position is behind the prologue, and there are so few
pub record LiesBehind (prologue p : ℕ) : Type 0 where
  pub behind : prologue ≤ p
  pub few : p ≤ MAX_EVENTS

-- all positions of the alarm are
pub record AllLieBehind (prologue : ℕ) (alarm : Alarm) : Type 0 where
  pub position : LiesBehind prologue alarm.position
  pub transaction : LiesBehind prologue alarm.transaction
  pub blamed : All (λ (block : Block). LiesBehind prologue block.first) alarm.blamed.items

-- the same alarm at positions of the whole log
pub record IsInWhole (before prologue : ℕ) (alarm moved : Alarm) : Type 0 where
  pub position : moved.position ≡ in_whole before prologue alarm.position
  pub transaction : moved.transaction ≡ in_whole before prologue alarm.transaction
  pub blamed : moved.blamed.items ≡ map (block_in_whole before prologue) alarm.blamed.items

-- the same fault at this position
abbrev pub moved_fault : ℕ → LogReplayFault → LogReplayFault
moved_fault p (Refused q refusal) = Refused p refusal
moved_fault p (WrongValue q) = WrongValue p
moved_fault p Memory = Memory
