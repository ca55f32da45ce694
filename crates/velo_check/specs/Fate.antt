-- How the program ends, by its fate: its status, and the line on standard error, if there is one.
use Rattle.std.specs.Prelude.{◌≡◌, ◌⊎◌, Bool, Some, None, ℕ, ◌++◌, [], List, decimal, codes, Option, if◌then◌else◌}
use Rattle.velo_events.specs.declared.refusal.Refusal.{Refusal}
use Rattle.velo_events.specs.declared.refusal.Refusal.TheVariants.{Halted, NotLive, NoSuchVariable, NoSuchLock, NoSuchThread, Busy, AlreadyHeld, NotHolder, NoOpenBlock, TooDeep, AlreadyForked, NotForked, NotExited, AlreadyJoined, BlockOpen, LockHeld, LogFull, GraphFull, WouldDeadlock, RuntimeMemory, Foreign}
use Rattle.velo_events.specs.declared.refusal.Refusal.TheVariants as refusal
use Rattle.velo_logtext.specs.declared.fault.LogFault.{LogFault}
use Rattle.velo_logtext.specs.declared.fault.LogFault.TheVariants.{BadHeader, BadLine, Truncated, TooLong, Read}
use Rattle.velo_logtext.specs.declared.fault.LogFault.TheVariants as log_fault
use Rattle.velo_events.specs.declared.event.ThreadId.{ThreadId}
use Rattle.velo_sidecars.specs.declared.list_fault.ListFault.{ListFault}
use Rattle.velo_sidecars.specs.declared.list_fault.ListFault.TheVariants as list_fault
use Rattle.velo_sidecars.specs.ListFault.{fault_line as line_of_list_fault, fault_number as number_of_list_fault}
use Rattle.velo_names.specs.declared.fault.NamesFault.{NamesFault}
use Rattle.velo_sidecars.specs.declared.site_fault.SitesFault.{SitesFault}
use Rattle.velo_sidecars.specs.declared.site_fault.SitesFault.TheVariants as sites_fault
use Rattle.velo_sidecars.specs.SiteFault.{fault_line as line_of_sites_fault, fault_number as number_of_sites_fault}
use Rattle.velo_claims.specs.declared.fault.ReportFault.{ReportFault}
use Rattle.velo_claims.specs.declared.fault.ReportFault.TheVariants as report_fault
use Rattle.velo_claims.specs.Fault.{fault_line as line_of_report_fault, fault_number as number_of_report_fault}
use Rattle.velo_names.specs.declared.fault.NamesFault.TheVariants as names_fault
use Rattle.velo_names.specs.Fault.{fault_line, fault_number}
use Rattle.velo_worker.specs.declared.ending.Ending.{Ending}
use Rattle.velo_worker.specs.declared.ending.Ending.TheVariants as ending
use Rattle.velo_workload.specs.declared.fault.WorkFault.{WorkFault}
use Rattle.velo_workload.specs.declared.fault.WorkFault.TheVariants as work_fault
use Rattle.velo_check.specs.Writing.{BreaksOff, Writing, Writes}
use Rattle.velo_schedule_text.specs.declared.schedule.ScheduleFault.{ScheduleFault}
use Rattle.velo_schedule_text.specs.declared.schedule.ScheduleFault.TheVariants as schedule_fault
use Rattle.velo_check.specs.declared.fault.CheckFault.{CheckFault}
use Rattle.velo_check.specs.declared.fault.CheckFault.TheVariants.{Log, Refused, WrongValue, Write, Memory}
use Rattle.velo_check.specs.declared.fate.Fate.{Fate}
use Rattle.velo_check.specs.declared.fate.Fate.TheVariants.{Finished, Schedule, Work, Names, Sites, OtherSites, Check, CannotOpen, OneFile, ReadFailed, WriteFailed, Lost, Open}
use Rattle.velo_check.specs.declared.fate.Fate.TheVariants as fate
use Rattle.velo_check.specs.declared.request.Ignorable.{Ignorable}
use Rattle.velo_check.specs.declared.request.Ignorable.TheVariants as ignorable
use Rattle.velo_check.specs.declared.failure.Failure.{Failure}
use Rattle.velo_check.specs.declared.failure.Failure.TheVariants as failure
use Rattle.velo_check.specs.declared.failure.Operand.{Operand}
use Rattle.velo_check.specs.declared.failure.Operand.TheVariants as operand

-- the numbers of refusals
abbrev pub number_of : Refusal → ℕ
number_of Halted = 1
number_of NotLive = 2
number_of NoSuchVariable = 3
number_of NoSuchLock = 4
number_of NoSuchThread = 5
number_of Busy = 6
number_of AlreadyHeld = 7
number_of NotHolder = 8
number_of NoOpenBlock = 9
number_of TooDeep = 10
number_of AlreadyForked = 11
number_of NotForked = 12
number_of NotExited = 13
number_of AlreadyJoined = 14
number_of BlockOpen = 15
number_of LockHeld = 16
number_of LogFull = 17
number_of GraphFull = 18
number_of refusal.Memory = 19
number_of WouldDeadlock = 20
number_of RuntimeMemory = 21
number_of Foreign = 22

-- ---- the status: 0 done, 2 bad input, 3 alarm, 4 not done to the end, 5 memory or a device failed

abbrev pub status_of_log : LogFault → ℕ
status_of_log Read = 5
status_of_log log_fault.Memory = 5
status_of_log _ = 2

-- A refused event: 4 by a limit of events or of nodes, else 2. A check reports refusals 2 to 18
-- alone.
abbrev pub status_of_refused : Refusal → ℕ
status_of_refused LogFull = 4
status_of_refused GraphFull = 4
status_of_refused _ = 2

abbrev pub status_of_check : CheckFault → ℕ
status_of_check (Log fault) = status_of_log fault
status_of_check (Refused position refusal) = status_of_refused refusal
status_of_check (WrongValue position) = 2
status_of_check Write = 5
status_of_check Memory = 5

-- 5 where memory was refused, 4 where the run could not go on; else 0 without an alarm, 3 with one
abbrev pub status_of_ending : Ending → Bool → ℕ
status_of_ending (ending.Refused thread refusal.Memory) alarm = 5
status_of_ending (ending.Refused thread RuntimeMemory) alarm = 5
status_of_ending (ending.Refused thread refused) alarm = 4
status_of_ending ending.Stuck alarm = 4
status_of_ending ending.Done alarm = if alarm then 3 else 0
status_of_ending ending.Halted alarm = if alarm then 3 else 0
status_of_ending ending.Gated alarm = if alarm then 3 else 0

abbrev pub status_of_schedule : ScheduleFault → ℕ
status_of_schedule schedule_fault.Bad = 2
status_of_schedule schedule_fault.Memory = 5

abbrev pub status_of_work : WorkFault → ℕ
status_of_work work_fault.Memory = 5
status_of_work _ = 2

abbrev pub status_of_names : NamesFault → ℕ
status_of_names names_fault.Memory = 5
status_of_names _ = 2

abbrev pub status_of_list : ListFault → ℕ
status_of_list list_fault.Memory = 5
status_of_list _ = 2

abbrev pub status_of_sites : SitesFault → ℕ
status_of_sites sites_fault.Memory = 5
status_of_sites _ = 2

abbrev pub status_of_report : ReportFault → ℕ
status_of_report report_fault.Memory = 5
status_of_report _ = 2

abbrev pub status_of : Fate → ℕ
status_of (Finished how alarm) = status_of_ending how alarm
status_of (Schedule fault) = status_of_schedule fault
status_of (Work fault) = status_of_work fault
status_of (Names fault) = status_of_names fault
status_of (fate.List fault) = status_of_list fault
status_of (Sites fault) = status_of_sites fault
status_of OtherSites = 2
status_of (fate.Report fault) = status_of_report fault
status_of (Check fault) = status_of_check fault
status_of CannotOpen = 5
status_of (fate.Ignored what) = 2
status_of (OneFile first second) = 2
status_of ReadFailed = 5
status_of WriteFailed = 5
status_of fate.Memory = 5
status_of Lost = 5
status_of Open = 4

-- ---- the line on standard error

abbrev pub line_of_log : LogFault → List ℕ
line_of_log BadHeader = codes "log fault 1\n"
line_of_log (BadLine n) = codes "log fault 2 line " ++ decimal n ++ codes "\n"
line_of_log (Truncated n) = codes "log fault 3 line " ++ decimal n ++ codes "\n"
line_of_log TooLong = codes "log fault 4\n"
line_of_log Read = codes "read failed\n"
line_of_log log_fault.Memory = codes "out of memory\n"

abbrev pub line_of_check : CheckFault → List ℕ
line_of_check (Log fault) = line_of_log fault
line_of_check (Refused position refusal) =
    codes "refused " ++ decimal (number_of refusal)
    ++ codes " at " ++ decimal position ++ codes "\n"
line_of_check (WrongValue position) = codes "wrong value at " ++ decimal position ++ codes "\n"
line_of_check Write = codes "write failed\n"
line_of_check Memory = codes "out of memory\n"

abbrev pub line_of_refused : ThreadId → Refusal → List ℕ
line_of_refused thread refusal =
    codes "refused " ++ decimal (number_of refusal)
    ++ codes " thread " ++ decimal thread.0 ++ codes "\n"

abbrev pub line_of_ending : Ending → List ℕ
line_of_ending (ending.Refused thread refusal.Memory) = codes "out of memory\n"
line_of_ending (ending.Refused thread RuntimeMemory) = codes "out of memory\n"
line_of_ending (ending.Refused thread refused) = line_of_refused thread refused
line_of_ending ending.Stuck = codes "stuck\n"
line_of_ending _ = []

abbrev pub line_of_schedule : ScheduleFault → List ℕ
line_of_schedule schedule_fault.Bad = codes "bad schedule\n"
line_of_schedule schedule_fault.Memory = codes "out of memory\n"

-- the number of the fault, and its line
abbrev pub place_of_work : WorkFault → Option (ℕ × ℕ)
place_of_work (work_fault.BadLine n) = Some (1, n)
place_of_work (work_fault.Unknown n) = Some (2, n)
place_of_work (work_fault.Twice n) = Some (3, n)
place_of_work (work_fault.Unmatched n) = Some (4, n)
place_of_work (work_fault.TooMany n) = Some (5, n)
place_of_work work_fault.Memory = None

abbrev pub line_of_work : Option (ℕ × ℕ) → List ℕ
line_of_work (Some (number, n)) =
    codes "workload fault " ++ decimal number ++ codes " line " ++ decimal n ++ codes "\n"
line_of_work None = codes "out of memory\n"

-- by the word for such a file, the number of the fault, if it is one of the file, and its line
abbrev pub line_of_file_fault : List ℕ → Option ℕ → ℕ → List ℕ
line_of_file_fault word (Some number) n =
    word ++ codes " fault " ++ decimal number ++ codes " line " ++ decimal n ++ codes "\n"
line_of_file_fault word None n = codes "out of memory\n"

-- by what was to be ignored and means nothing
abbrev pub line_of_ignored : Ignorable → List ℕ
line_of_ignored ignorable.Lock = codes "ignored fault 1\n"
line_of_ignored ignorable.Variable = codes "ignored fault 2\n"
line_of_ignored ignorable.Label = codes "ignored fault 3\n"

-- its word in the line of `OneFile`
abbrev pub word_of : Operand → List ℕ
word_of operand.Log = codes "LOG"
word_of operand.File = codes "FILE"
word_of operand.Out = codes "OUT"
word_of operand.NamesOut = codes "NAMES"
word_of operand.Map = codes "MAP"
word_of operand.Names = codes "--names"
word_of operand.Sites = codes "--sites"
word_of operand.NotAtomic = codes "--not-atomic"
word_of operand.Ignore = codes "--ignore"
word_of operand.Turns = codes "--turns"

abbrev pub line_of_one_file : Operand → Operand → List ℕ
line_of_one_file first second =
    codes "error: " ++ word_of first ++ codes " and " ++ word_of second ++ codes " are one file\n"

abbrev pub last_line_of : Fate → List ℕ
last_line_of (Finished how alarm) = line_of_ending how
last_line_of (Schedule fault) = line_of_schedule fault
last_line_of (Work fault) = line_of_work (place_of_work fault)
last_line_of (Names fault) = line_of_file_fault (codes "names") (fault_number fault) (fault_line fault)
last_line_of (fate.List fault) =
    line_of_file_fault (codes "list") (number_of_list_fault fault) (line_of_list_fault fault)
last_line_of (Sites fault) =
    line_of_file_fault (codes "sites") (number_of_sites_fault fault) (line_of_sites_fault fault)
last_line_of OtherSites = codes "sites fault 5 line 0\n"
last_line_of (fate.Report fault) =
    line_of_file_fault (codes "report") (number_of_report_fault fault) (line_of_report_fault fault)
last_line_of (fate.Ignored what) = line_of_ignored what
last_line_of (Check fault) = line_of_check fault
last_line_of CannotOpen = codes "cannot open\n"
last_line_of (OneFile first second) = line_of_one_file first second
last_line_of ReadFailed = codes "read failed\n"
last_line_of Lost = codes "seat lost\n"
last_line_of Open = codes "open\n"
last_line_of WriteFailed = codes "write failed\n"
last_line_of fate.Memory = codes "out of memory\n"

-- ---- how they are used

-- the fate of a failure, without the file that it is about
abbrev pub fate_of_failure : Failure → Fate
fate_of_failure (failure.CannotOpen which) = CannotOpen
fate_of_failure (failure.ReadFailed which) = ReadFailed
fate_of_failure (failure.WriteFailed which) = WriteFailed
fate_of_failure failure.PrintFailed = WriteFailed
fate_of_failure (failure.Memory refused) = fate.Memory

-- the line went out, and this is the status; or it broke off, and the status is 5
abbrev pub Closes : ℕ → List ℕ → Writing → ℕ → Type 0
Closes status line stderr result =
    ((result ≡ status) × Writes stderr line) ⊎ ((result ≡ 5) × BreaksOff stderr line)

-- The program ends by its fate: with its line and its status. Where there is no line, none breaks
-- off.
abbrev pub Ends : Fate → Writing → ℕ → Type 0
Ends fate stderr result =
    Closes (status_of fate) (last_line_of fate) stderr result
    × (last_line_of fate ≡ [] → result ≡ status_of fate)
