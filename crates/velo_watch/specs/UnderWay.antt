-- A watch on its way, and what its next step comes to.
use Rattle.std.specs.Prelude.{◌≡◌, ◌≤◌, ℕ, [], ◌∷◌, ◌++◌, Bool, true, false, List, length, Option, IfSome, Result, Ok, Err}
use Rattle.std.specs.Io.KnownBytes.{Appends}
use Rattle.velo_events.specs.declared.event.Event.{Event}
use Rattle.velo_events.specs.declared.limits.TheConstants.{MAX_EVENTS}
use Rattle.velo_events.specs.Graph.{HasCycle}
use Rattle.velo_events.specs.Refusals.{GrowthRefused}
use Rattle.velo_events.specs.WellFormed.{IsWellFormed}
use Rattle.velo_bytes.specs.Device.{AppendsBeginning, with_failure}
use Rattle.velo_logtext.specs.Finding.{ReadsAs}
use Rattle.velo_logtext.specs.Reader.{HasGiven, IsMetBehind, IsMetInHeader}
use Rattle.velo_logtext.specs.declared.fault.LogFault.TheVariants.{Read}
use Rattle.velo_logtext.specs.Text.{IsLogText}
use Rattle.velo_world.specs.declared.analysis.Alarm.{Alarm}
use Rattle.velo_world.specs.declared.log_replay.LogReplayFault.TheVariants.{Memory}
use Rattle.velo_world.specs.Faults.{IsFaultAtEvent}
use Rattle.velo_world.specs.World.{WorldState, IsAlarm}
use Rattle.velo_report.specs.Alarm.{alarm_line}
use Rattle.velo_watch.specs.declared.state.Watch.{Watch}
use Rattle.velo_watch.specs.declared.fault.WatchFault.{WatchFault}
use Rattle.velo_watch.specs.declared.fault.WatchFault.TheVariants.{Log, Replay, Write}
use Rattle.velo_watch.specs.Watch.{IsFront, Tells}

-- whether the alarm of these events was told, by which the output grew: without an alarm nothing was
abbrev pub HasTold : Bool → Option (List ℕ) → Option (List ℕ) → List Event → Type 0
HasTold false old new log = (¬ HasCycle log) × Appends old new []
HasTold true old new log = (alarm : Alarm) × IsAlarm log alarm × Appends old new (alarm_line alarm)

-- a beginning of the alarm's line went out
abbrev pub TellsPart : Option (List ℕ) → Option (List ℕ) → List Event → Type 0
TellsPart old new log = (alarm : Alarm) × IsAlarm log alarm × AppendsBeginning old new (alarm_line alarm)

-- of the input, the events of the world were given; and the output grew by what is told of them
pub record IsUnderWay (read remaining old new : Option (List ℕ)) (watch : Watch) : Type 0 where
  pub given : HasGiven read watch.world.log watch.reader remaining
  pub bounds : watch.world.config.bounds ≡ watch.reader.bounds
  pub told : HasTold watch.told old new watch.world.log

-- the events of the world came about, within its limit of events
pub record CameAbout (w : WorldState) : Type 0 where
  pub well_formed : IsWellFormed w.config.bounds w.log
  pub room : length w.log ≤ w.config.events

-- whether one event more came about
abbrev pub Advances : WorldState → Bool → WorldState → Type 0
Advances w true w' = CameAbout w' × ((e : Event) × (w'.log ≡ w.log ++ e ∷ []))
Advances w false w' = CameAbout w' × (w' ≡ w)

-- the line of the alarm broke off, which the last of these events of the input raised
pub record FailsToTell (read old new : Option (List ℕ)) (w : WorldState) (e : Event) : Type 0 where
  pub front : IsFront read w.config.bounds (w.log ++ e ∷ [])
  pub came : CameAbout (record w { log = w.log ++ e ∷ [] })
  pub no_cycle : ¬ HasCycle w.log
  pub part : TellsPart old new (w.log ++ e ∷ [])

-- why there is no next event behind the log of the world, which came about and whose alarm is told
abbrev pub FailsAfter : Option (List ℕ) → Option (List ℕ) → Option (List ℕ) → WorldState → WatchFault → Type 0
FailsAfter read old new w (Log fault) =
    CameAbout w × Tells old new w.log × IsMetBehind (length w.log) fault × IfSome read (λ bytes. ReadsAs MAX_EVENTS bytes (Err fault))
FailsAfter read old new w (Replay fault) =
    CameAbout w × Tells old new w.log × ((e : Event) × IsFront read w.config.bounds (w.log ++ e ∷ []) × IsFaultAtEvent w.config w.log e fault)
FailsAfter read old new w Write = (e : Event) × FailsToTell read old new w e

-- the next event came about, and its alarm is told; or the input is at its end, and is the log of the world; or neither
abbrev pub Steps : Option (List ℕ) → Option (List ℕ) → Watch → Result Bool WatchFault → Watch → Option (List ℕ) → Option (List ℕ) → Type 0
Steps read old watch (Ok true) watch' remaining new =
    IsUnderWay read remaining old new watch' × ((e : Event) × (watch'.world.log ≡ watch.world.log ++ e ∷ []))
Steps read old watch (Ok false) watch' remaining new =
    (watch'.world ≡ watch.world) × HasTold watch'.told old new watch'.world.log × IfSome read (λ bytes. IsLogText bytes watch'.world.config.bounds watch'.world.log)
Steps read old watch (Err fault) watch' remaining new = FailsAfter read old new watch.world fault

-- why there is no watch: the header, or a growth that was refused
abbrev pub IsFaultOfOpening : Option (List ℕ) → WatchFault → Type 0
IsFaultOfOpening read (Log fault) = IsMetInHeader fault × IfSome read (λ bytes. ReadsAs MAX_EVENTS bytes (Err fault))
IsFaultOfOpening read (Replay Memory) = GrowthRefused
IsFaultOfOpening read _ = ⊥

-- the source's count of failures after a call: one more exactly where it failed
abbrev pub read_failures : {X : Type 0} → Result X WatchFault → ℕ → ℕ
read_failures (Err (Log Read)) failures = with_failure failures
read_failures (Ok x) failures = failures
read_failures (Err fault) failures = failures

-- the sink's
abbrev pub write_failures : {X : Type 0} → Result X WatchFault → ℕ → ℕ
write_failures (Err Write) failures = with_failure failures
write_failures (Ok x) failures = failures
write_failures (Err fault) failures = failures
