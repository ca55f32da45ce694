-- The lines of a report.
use Rattle.std.specs.Prelude.{◌≡◌, ℕ, ◌∷◌, [], ◌++◌, List, length, codes, decimal, Option, Some, None}
use Rattle.std.specs.List.{flat_map, range_with_len}
use Rattle.std.specs.Io.KnownBytes.{Appends}
use Rattle.velo_events.specs.declared.event.Event.{Event}
use Rattle.velo_events.specs.Tally.{events_of}
use Rattle.velo_traces.specs.declared.block.Block.{Block}
use Rattle.velo_bytes.specs.Device.{AppendsBeginning}
use Rattle.velo_world.specs.declared.analysis.Alarm.{Alarm}
use Rattle.velo_world.specs.World.{AlarmOf}
use Rattle.velo_names.specs.declared.kind.NameKind.TheVariants.{Thread, Label}
use Rattle.velo_report.specs.declared.names.Names.{Names}
use Rattle.velo_report.specs.Counted.{AreEventCountsOf}
use Rattle.velo_report.specs.Lines.{line_of}
use Rattle.velo_report.specs.Names.{thread_name, label_word, name_behind}

-- ---- how many events there are

-- The number of a thread and how many events it has. A name that a workload gives stands between them, one that a file of
-- names gives behind them
abbrev pub thread_words : Option (List ℕ) → Option (List ℕ) → ℕ → ℕ → List (List ℕ)
thread_words (Some behind) between t count = decimal t ∷ decimal count ∷ behind ∷ []
thread_words None (Some between) t count = decimal t ∷ between ∷ decimal count ∷ []
thread_words None None t count = decimal t ∷ decimal count ∷ []

abbrev pub count_line : Names → ℕ → ℕ → List ℕ
count_line names t count = line_of (codes "thread") (thread_words (name_behind names Thread t) (thread_name names t) t count)

abbrev pub thread_line : Names → List Event → ℕ → List ℕ
thread_line names log t = count_line names t (events_of log t)

-- a line for each thread, from 0 on
abbrev pub thread_lines : Names → List Event → ℕ → List ℕ
thread_lines names log threads = flat_map (thread_line names log) (range_with_len 0 threads)

-- ---- the verdict

-- The begin of a blamed block, and its label, as a word, or as a number with the name that a file of names gives behind it
abbrev pub blame_words : Option (List ℕ) → ℕ → ℕ → List ℕ → List (List ℕ)
blame_words (Some behind) first label word = decimal first ∷ decimal label ∷ behind ∷ []
blame_words None first label word = decimal first ∷ word ∷ []

abbrev pub blame_line : Names → Block → List ℕ
blame_line names block = line_of (codes "blame") (blame_words (name_behind names Label block.label.0) block.first block.label.0 (label_word names block.label.0))

-- a line for each blamed block, in their order
abbrev pub blame_lines : Names → List Block → List ℕ
blame_lines names [] = line_of (codes "blame") (codes "none" ∷ [])
blame_lines names (block ∷ blocks) = flat_map (blame_line names) (block ∷ blocks)

-- the verdict; with an alarm its position, the transaction there, and the blocks to blame
abbrev pub verdict_lines : Names → Option Alarm → List ℕ
verdict_lines names None = line_of (codes "verdict") (codes "clean" ∷ [])
verdict_lines names (Some alarm) =
    line_of (codes "verdict") (codes "alarm" ∷ decimal alarm.position ∷ [])
    ++ (line_of (codes "transaction") (decimal alarm.transaction ∷ [])
    ++ blame_lines names alarm.blamed.items)

-- ---- the whole

abbrev pub report_lines : Names → ℕ → List Event → Option Alarm → List ℕ
report_lines names threads log alarm =
    line_of (codes "events") (decimal (length log) ∷ []) ++ (thread_lines names log threads ++ verdict_lines names alarm)

-- the text is the report of a log of so many threads: its verdict is by the alarm of the log
pub record IsReport (names : Names) (threads : ℕ) (log : List Event) (text : List ℕ) : Type 0 where
  pub alarm : Option Alarm
  pub exact : AlarmOf log alarm
  pub lines : text ≡ report_lines names threads log alarm

-- the log has so many events, its threads have these counts of them, and this is its alarm
pub record AreCountsOf (log : List Event) (events : ℕ) (counts : List ℕ) (alarm : Option Alarm) : Type 0 where
  pub total : events ≡ length log
  pub each : AreEventCountsOf log counts
  pub exact : AlarmOf log alarm

-- known bytes grow by the report
pub record AppendsReport (old new : Option (List ℕ)) (names : Names) (threads : ℕ) (log : List Event) : Type 0 where
  pub text : List ℕ
  pub is_report : IsReport names threads log text
  pub appends : Appends old new text

-- they grow by a beginning of it
pub record AppendsPartOfReport (old new : Option (List ℕ)) (names : Names) (threads : ℕ) (log : List Event) : Type 0 where
  pub text : List ℕ
  pub is_report : IsReport names threads log text
  pub appends : AppendsBeginning old new text
