-- The results of the calls of a handle.
use Rattle.std.specs.Prelude.{◌≡◌, ◌⊎◌, ℕ, true, false, List, [], length, map, Option, Some, None, Result, Ok, Err}
use Rattle.velo_events.specs.declared.config.Bounds.{Bounds}
use Rattle.velo_events.specs.declared.event.Action.{Action}
use Rattle.velo_events.specs.declared.event.Event.{Event}
use Rattle.velo_events.specs.declared.event.ThreadId.{ThreadId}
use Rattle.velo_events.specs.declared.refusal.Refusal.{Refusal}
use Rattle.velo_events.specs.declared.refusal.Refusal.TheVariants.{Halted, NotLive, NoSuchVariable, NoSuchLock, NoSuchThread, Busy, AlreadyHeld, NotHolder, NoOpenBlock, TooDeep, AlreadyForked, NotForked, NotExited, AlreadyJoined, BlockOpen, LockHeld, LogFull, GraphFull, Memory, WouldDeadlock, RuntimeMemory, Foreign}
use Rattle.velo_traces.specs.declared.block.Block.{Block}
use Rattle.velo_world.specs.declared.analysis.Alarm.{Alarm}
use Rattle.velo_world.specs.declared.analysis.Reply.{Reply}
use Rattle.velo_world.specs.World.{AlarmOf, StepsTo, WorldState}
use Rattle.velo_ffi.specs.declared.answers.Answer.{Answer}
use Rattle.velo_ffi.specs.declared.answers.Blamed.{Blamed}
use Rattle.velo_ffi.specs.declared.answers.Verdict.{Verdict}
use Rattle.velo_ffi.specs.declared.answers.TheConstants.{BAD_NUMBER, CLOSED, DONE}
use Rattle.velo_ffi.specs.Numbers.{AreBad}
use Rattle.velo_ffi.specs.Texts.{TellsAll, WantsMemory}
use Rattle.velo_ffi.specs.Watch.{WatchState}

-- ---- opening

-- a world without events, of these bounds and limits, which goes on after an alarm
pub record IsOpened (asked : Bounds) (most_events most_nodes : ℕ) (w : WorldState) : Type 0 where
  pub bounds : w.config.bounds ≡ asked
  pub events : w.config.events ≡ most_events
  pub nodes : w.config.nodes ≡ most_nodes
  pub goes_on : w.config.stop ≡ false
  pub live : w.halted ≡ false
  pub empty : w.log ≡ []

-- the result of opening, by what the handle keeps then: a number may be bad, or an allocation fails
abbrev pub Opens : Bounds → ℕ → ℕ → ℕ → Option WatchState → Type 0
Opens bounds events nodes status (Some w) = (status ≡ DONE) × IsOpened bounds events nodes w.world
Opens bounds events nodes status None =
    ((status ≡ BAD_NUMBER) × AreBad bounds events nodes) ⊎ WantsMemory status

-- ---- an event

-- the number that is returned for a refusal
abbrev pub number_of : Refusal → ℕ
number_of Halted = 1
number_of NotLive = 2
number_of NoSuchVariable = 3
number_of NoSuchLock = 4
number_of NoSuchThread = 5
number_of Busy = 6
number_of AlreadyHeld = 7
number_of NotHolder = 8
number_of NoOpenBlock = 9
number_of TooDeep = 10
number_of AlreadyForked = 11
number_of NotForked = 12
number_of NotExited = 13
number_of AlreadyJoined = 14
number_of BlockOpen = 15
number_of LockHeld = 16
number_of LogFull = 17
number_of GraphFull = 18
number_of Memory = 19
number_of WouldDeadlock = 20
number_of RuntimeMemory = 21
number_of Foreign = 22

-- a value, or 0 where there is none
abbrev pub value_or_0 : Option ℕ → ℕ
value_or_0 None = 0
value_or_0 (Some value) = value

abbrev pub answer_of : Reply → Answer
answer_of reply = record { position = reply.position; value = value_or_0 reply.value; alarmed = reply.alarmed }

-- a reply is written down; at a refusal its number is the status, and the caller's answer is as it
-- was
abbrev pub Tells : Result Reply Refusal → Answer → ℕ → Answer → Type 0
Tells (Ok reply) before status after = (status ≡ DONE) × (after ≡ answer_of reply)
Tells (Err refusal) before status after = (status ≡ number_of refusal) × (after ≡ before)

-- the thread did the action, and its result was written down
pub record Steps (w : WatchState) (thread : ThreadId) (action : Action) (before : Answer) (status : ℕ) (after : Answer) (w' : WatchState) : Type 0 where
  pub outcome : Result Reply Refusal
  pub steps : StepsTo w.world w.shares thread action outcome w'.world w'.shares
  pub told : Tells outcome before status after

-- what a call does by its numbers: a step, unless one of them is beyond its type
abbrev pub Tries : WatchState → Option ThreadId → Option Action → Answer → ℕ → Answer → WatchState → Type 0
Tries w (Some thread) (Some action) before status after w' = Steps w thread action before status after w'
Tries w _ _ before status after w' = (status ≡ BAD_NUMBER) × (after ≡ before) × (w' ≡ w)

-- a call that does an action, by what the handle keeps before and after
abbrev pub Does : Option WatchState → Option ThreadId → Option Action → Answer → ℕ → Answer → Option WatchState → Type 0
Does None thread action before status after kept = (status ≡ CLOSED) × (after ≡ before) × (kept ≡ None)
Does (Some w) thread action before status after None = ⊥
Does (Some w) thread action before status after (Some w') = Tries w thread action before status after w'

-- ---- the verdict

abbrev pub verdict_of : List Event → Option Alarm → Verdict
verdict_of log None = record { events = length log; position = 0; transaction = 0; blamed = 0; alarmed = false }
verdict_of log (Some alarm) = record {
  events = length log;
  position = alarm.position;
  transaction = alarm.transaction;
  blamed = length alarm.blamed.items;
  alarmed = true;
}

-- it is the verdict of the log: an alarm exactly where the log has a cycle
pub record IsVerdict (log : List Event) (verdict : Verdict) : Type 0 where
  pub alarm : Option Alarm
  pub exact : AlarmOf log alarm
  pub told : verdict ≡ verdict_of log alarm

abbrev pub blamed_of : Block → Blamed
blamed_of block = record { first = block.first; label = block.label.0 }

abbrev pub blocks_of : Option Alarm → List Blamed
blocks_of None = []
blocks_of (Some alarm) = map blamed_of alarm.blamed.items

-- they are the blocks that the log's alarm blames, outermost first; none without an alarm
pub record AreBlocks (log : List Event) (blocks : List Blamed) : Type 0 where
  pub alarm : Option Alarm
  pub exact : AlarmOf log alarm
  pub told : blocks ≡ blocks_of alarm

-- they are put into the buffer, or their number is returned
abbrev pub TellsBlocks : List Event → ℕ → List Blamed → ℕ → Type 0
TellsBlocks log status buffer count = (blocks : List Blamed) × AreBlocks log blocks × TellsAll blocks status buffer count
