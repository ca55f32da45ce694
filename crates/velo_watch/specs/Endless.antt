-- A watch of a log without end on its way, and what its next step comes to. What it says is of the whole list of events.
use Rattle.std.specs.Prelude.{◌≡◌, ℕ, ◌<◌, ◌≤◌, [], ◌∷◌, ◌++◌, Bool, true, false, List, length, Option, Some, None, IfSome, Result, Ok, Err}
use Rattle.std.specs.Io.KnownBytes.{Appends}
use Rattle.velo_events.specs.declared.config.Bounds.{Bounds}
use Rattle.velo_events.specs.declared.config.Config.{Config}
use Rattle.velo_events.specs.declared.event.Event.{Event}
use Rattle.velo_events.specs.Graph.{HasCycle}
use Rattle.velo_events.specs.Refusals.{GrowthRefused}
use Rattle.velo_events.specs.WellFormed.{IsWellFormed}
use Rattle.velo_bytes.specs.Device.{AppendsBeginning}
use Rattle.velo_heap.specs.Contents.{bounds_of}
use Rattle.velo_logtext.specs.Finding.{ReadsAs}
use Rattle.velo_logtext.specs.Reader.{IsMetInHeader}
use Rattle.velo_logtext.specs.Text.{IsLogText}
use Rattle.velo_report.specs.Alarm.{alarm_line}
use Rattle.velo_watch.specs.Watch.{IsFront, Tells, told_text}
use Rattle.velo_watch.specs.UnderWay.{TellsPart}
use Rattle.velo_watch.specs.declared.fault.WatchFault.{WatchFault}
use Rattle.velo_watch.specs.declared.fault.WatchFault.TheVariants.{Log, Replay, Write}
use Rattle.velo_world.specs.declared.analysis.Alarm.{Alarm}
use Rattle.velo_world.specs.declared.log_replay.LogReplayFault.{LogReplayFault}
use Rattle.velo_watch.specs.declared.long.TheConstants.{MAX_WATCHED}
use Rattle.velo_watch.specs.declared.endless.EndlessWatch.{EndlessWatch}
use Rattle.velo_watch.specs.Kept.{IsFaultBehind}
use Rattle.velo_watch.specs.Piece.{CanFollow, IsCutInTime, IsJudged}
use Rattle.velo_watch.specs.Reading.{HasRead, IsMetEndless}
use Rattle.velo_watch.specs.Whole.{IsWholeOf}

-- the watch is that of some log, and its piece can be followed
pub record CanGoOn (watch : EndlessWatch) : Type 0 where
  pub piece : CanFollow watch.piece
  pub bounds : bounds_of watch.whole.heap ≡ watch.piece.world.config.bounds
  pub log : List Event
  pub whole : IsWholeOf log watch.whole
  pub few : length log ≤ watch.reader.given

-- what is known of these events: what they leave and come to, and their alarm; and a cut comes in time
pub record HasJudged (log : List Event) (watch : EndlessWatch) : Type 0 where
  pub whole : IsWholeOf log watch.whole
  pub bounds : bounds_of watch.whole.heap ≡ watch.piece.world.config.bounds
  pub judged : IsJudged log watch.piece watch.alarm
  pub in_time : watch.alarm ≡ None → IsCutInTime log watch.piece

-- and how many they are
pub record HasSeen (log : List Event) (watch : EndlessWatch) : Type 0 where
  pub judged : HasJudged log watch
  pub count : watch.reader.given ≡ length log

-- of the input, these events were given; and the output grew by what is told of them
pub record IsUnderWay (read remaining old new : Option (List ℕ)) (log : List Event) (watch : EndlessWatch) : Type 0 where
  pub given : HasRead read log watch.reader remaining
  pub bounds : watch.piece.world.config.bounds ≡ watch.reader.bounds
  pub seen : HasSeen log watch
  pub told : Appends old new (told_text watch.alarm)

-- the line of the alarm broke off, which the last of these events of the input raised
pub record FailsToTell (read old new : Option (List ℕ)) (bounds : Bounds) (log : List Event) (e : Event) : Type 0 where
  pub front : IsFront read bounds (log ++ e ∷ [])
  pub came : IsWellFormed bounds (log ++ e ∷ [])
  pub room : length (log ++ e ∷ []) ≤ MAX_WATCHED
  pub no_cycle : ¬ HasCycle log
  pub part : TellsPart old new (log ++ e ∷ [])

-- why there is no next event behind these, which came about and whose alarm is told
abbrev pub FailsAfter : Option (List ℕ) → Option (List ℕ) → Option (List ℕ) → Config → List Event → WatchFault → Type 0
FailsAfter read old new config log (Log fault) =
    IsWellFormed config.bounds log × Tells old new log
    × IsMetEndless (length log) fault × IfSome read (λ bytes. ReadsAs MAX_WATCHED bytes (Err fault))
FailsAfter read old new config log (Replay fault) =
    IsWellFormed config.bounds log × Tells old new log
    × ((e : Event) × IsFront read config.bounds (log ++ e ∷ []) × IsFaultBehind config log e fault)
FailsAfter read old new config log Write = (e : Event) × FailsToTell read old new config.bounds log e

-- the next event came about, and its alarm is told; or the input is at its end, and is the log; or neither
abbrev pub Steps : Option (List ℕ) → Option (List ℕ) → List Event → EndlessWatch → Result Bool WatchFault → EndlessWatch → Option (List ℕ) → Option (List ℕ) → Type 0
Steps read old log watch (Ok true) watch' remaining new =
    (e : Event) × IsUnderWay read remaining old new (log ++ e ∷ []) watch'
Steps read old log watch (Ok false) watch' remaining new =
    HasSeen log watch' × Tells old new log × (IsWellFormed watch'.piece.world.config.bounds log)
    × IfSome read (λ bytes. IsLogText bytes watch'.piece.world.config.bounds log)
Steps read old log watch (Err fault) watch' remaining new = FailsAfter read old new watch.piece.world.config log fault

-- ---- on the way. Private contracts cite these words

-- the watch can go on with an event that was read
pub record CanTakeIn (watch : EndlessWatch) : Type 0 where
  pub piece : CanFollow watch.piece
  pub bounds : bounds_of watch.whole.heap ≡ watch.piece.world.config.bounds
  pub log : List Event
  pub whole : IsWholeOf log watch.whole
  pub few : length log < watch.reader.given

-- the event was seen after these; or why it does not come next
abbrev pub Judges : List Event → Event → EndlessWatch → {X : Type 0} → Result X LogReplayFault → EndlessWatch → Type 0
Judges log e old (Ok x) new = HasJudged (log ++ e ∷ []) new
Judges log e old (Err fault) new = IsFaultBehind old.piece.world.config log e fault

-- a beginning of the alarm's line went out
abbrev pub TellsPartOf : Option Alarm → Option (List ℕ) → Option (List ℕ) → Type 0
TellsPartOf None old new = ⊥
TellsPartOf (Some alarm) old new = AppendsBeginning old new (alarm_line alarm)
