-- What a watch says of the bytes of its input, as they come: what is told so far is that of the events so far.
use Rattle.std.specs.Prelude.{◌≡◌, ℕ, [], Bool, List, Option, Some, None, IfSome}
use Rattle.std.specs.Io.KnownBytes.{Appends}
use Rattle.velo_events.specs.declared.config.Bounds.{Bounds}
use Rattle.velo_events.specs.declared.event.Event.{Event}
use Rattle.velo_logtext.specs.Text.{Begins}
use Rattle.velo_world.specs.declared.analysis.Alarm.{Alarm}
use Rattle.velo_world.specs.World.{AlarmOf}
use Rattle.velo_report.specs.Alarm.{alarm_line}

-- the input begins with the text of these bounds and events
abbrev pub IsFront : Option (List ℕ) → Bounds → List Event → Type 0
IsFront read bounds trace = IfSome read (λ bytes. (shares : Bool) × (rest : List ℕ) × Begins bytes shares bounds trace rest)

-- the line of the alarm of the events so far; without an alarm nothing
abbrev pub told_text : Option Alarm → List ℕ
told_text None = []
told_text (Some alarm) = alarm_line alarm

-- the output grew by what is told of these events, and by nothing else
pub record Tells (old new : Option (List ℕ)) (trace : List Event) : Type 0 where
  pub alarm : Option Alarm
  pub exact : AlarmOf trace alarm
  pub appends : Appends old new (told_text alarm)
