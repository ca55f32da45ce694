-- What stands in the bytes of an input: the text of a log, or a first line that is wrong.
use Rattle.std.specs.Prelude.{◌≡◌, ℕ, Bool, ◌+◌, ◌<◌, ◌≤◌, List, ◌++◌, length, Contains, ◌⊎◌, Result, Ok, Err}
use Rattle.velo_events.specs.declared.config.Bounds.{Bounds}
use Rattle.velo_events.specs.declared.event.Event.{Event}
use Rattle.velo_events.specs.Refusals.{GrowthRefused}
use Rattle.velo_traces.specs.declared.trace.Trace.{Trace}
use Rattle.velo_logtext.specs.declared.fault.LogFault.{LogFault}
use Rattle.velo_logtext.specs.declared.fault.LogFault.TheVariants.{BadHeader, BadLine, Truncated, TooLong, Read, Memory}
use Rattle.velo_bytes.specs.Device.{with_failure}
use Rattle.velo_logtext.specs.declared.window.TheConstants.{LONGEST_LINE}
use Rattle.velo_logtext.specs.Text.{AreBounds, IsEventIn, Head, header_line, event_line, Begins, IsLogText}

-- no header with its newline stands at the front
pub record HasNoHeader (bytes : List ℕ) : Type 0 where
  pub none : (head : Head) (rest : List ℕ) → AreBounds head.1 → ¬ (bytes ≡ header_line head ++ rest)

-- no event's line of a version stands at the front, with its newline
pub record HasNoEvent (shares : Bool) (bytes : List ℕ) : Type 0 where
  pub none : (e : Event) (rest : List ℕ) → IsEventIn shares e → ¬ (bytes ≡ event_line e ++ rest)

-- no event's line, though a newline stands there, or more bytes than a line may have
pub record IsBadLine (shares : Bool) (bytes : List ℕ) : Type 0 where
  pub no_event : HasNoEvent shares bytes
  pub ended : Contains bytes 10 ⊎ (LONGEST_LINE < length bytes)

-- some bytes, no more than a line may have, and then the end with no newline
pub record IsCutLine (bytes : List ℕ) : Type 0 where
  pub some : 0 < length bytes
  pub few : length bytes ≤ LONGEST_LINE
  pub no_newline : ¬ Contains bytes 10

-- the header and the lines before line n are right, and fewer than limit; line n is wrong in this way
pub record IsFirstWrongLine (limit : ℕ) (bytes : List ℕ) (n : ℕ) (IsWrong : Bool → List ℕ → Type 0) : Type 0 where
  pub shares : Bool
  pub bounds : Bounds
  pub events : List Event
  pub rest : List ℕ
  pub begins : Begins bytes shares bounds events rest
  pub room : length events < limit
  pub line : n ≡ length events + 2
  pub wrong : IsWrong shares rest

-- a byte stands after as many lines of events as there may be
pub record IsTooLong (limit : ℕ) (bytes : List ℕ) : Type 0 where
  pub shares : Bool
  pub bounds : Bounds
  pub events : List Event
  pub rest : List ℕ
  pub begins : Begins bytes shares bounds events rest
  pub full : length events ≡ limit
  pub more : 0 < length rest

-- a log, or what is wrong
abbrev pub Finding : Type 0
Finding = Result (Bounds × List Event) LogFault

-- What stands in the bytes, where a log may have so many events. A failed device and want of memory stand in none.
abbrev pub Stands : ℕ → List ℕ → Finding → Type 0
Stands limit bytes (Ok log) = IsLogText bytes log.0 log.1 × (length log.1 ≤ limit)
Stands limit bytes (Err BadHeader) = HasNoHeader bytes
Stands limit bytes (Err (BadLine n)) = IsFirstWrongLine limit bytes n IsBadLine
Stands limit bytes (Err (Truncated n)) = IsFirstWrongLine limit bytes n (λ shares. IsCutLine)
Stands limit bytes (Err TooLong) = IsTooLong limit bytes
Stands limit bytes (Err Read) = ⊥
Stands limit bytes (Err Memory) = ⊥

-- what a reader answers, by the events of its trace
abbrev pub finding_of : Result (Bounds × Trace) LogFault → Finding
finding_of (Ok log) = Ok (log.0, log.1.events)
finding_of (Err fault) = Err fault

-- What a reader of the bytes returns: what stands in them, unless the device failed or a growth was refused. That the device
-- failed is said by the count of its failures.
abbrev pub ReadsAs : ℕ → List ℕ → Finding → Type 0
ReadsAs limit bytes (Err Read) = Unit {0}
ReadsAs limit bytes (Err Memory) = GrowthRefused
ReadsAs limit bytes (Ok log) = Stands limit bytes (Ok log)
ReadsAs limit bytes (Err fault) = Stands limit bytes (Err fault)

-- the answer is this finding, unless the device failed or a growth was refused
abbrev pub IsFindingOrFailure : Finding → Finding → Type 0
IsFindingOrFailure finding (Err Read) = Unit {0}
IsFindingOrFailure finding (Err Memory) = GrowthRefused
IsFindingOrFailure finding (Ok log) = finding ≡ Ok log
IsFindingOrFailure finding (Err fault) = finding ≡ Err fault

-- the count of failures after a reader's answer
abbrev pub failures_after : {X : Type 0} → Result X LogFault → ℕ → ℕ
failures_after (Err Read) failures = with_failure failures
failures_after (Ok x) failures = failures
failures_after (Err fault) failures = failures
