-- What reading and thinning a log comes to, by the bytes of its input.
use Rattle.std.specs.Prelude.{◌≡◌, ℕ, List, length, IfSome, Option, Result, Err}
use Rattle.velo_events.specs.declared.config.Bounds.{Bounds}
use Rattle.velo_events.specs.declared.event.Event.{Event}
use Rattle.velo_events.specs.declared.limits.TheConstants.{MAX_EVENTS}
use Rattle.velo_events.specs.Refusals.{GrowthRefused}
use Rattle.velo_events.specs.WellFormed.{IsWellFormed}
use Rattle.velo_bytes.specs.Device.{with_failure}
use Rattle.velo_traces.specs.declared.judge.Flaw.TheVariants as flaw
use Rattle.velo_traces.specs.Flaws.{IsFirstFlaw}
use Rattle.velo_logtext.specs.declared.fault.LogFault.TheVariants as log_fault
use Rattle.velo_logtext.specs.Text.{IsLogText}
use Rattle.velo_logtext.specs.Finding.{ReadsAs}
use Rattle.velo_thinning.specs.declared.reading.ThinFault.{ThinFault}
use Rattle.velo_thinning.specs.declared.reading.ThinFault.TheVariants.{Log, Refused, WrongValue, Memory}
use Rattle.velo_thinning.specs.declared.outcome.ThinnedLog.{ThinnedLog}
use Rattle.velo_thinning.specs.Counting.{variables_in}
use Rattle.velo_filter.specs.Left.{Omitted}
use Rattle.velo_thinning.specs.Thinning.{IsThinnedRest}

-- the log can come about, and was thinned without what is left out of it, and counted
pub record IsThinning (bounds : Bounds) (omitted : Omitted) (log : List Event) (thinned : ThinnedLog) : Type 0 where
  pub can_come_about : IsWellFormed bounds log
  pub left : IsThinnedRest bounds omitted log thinned.left
  pub bounds_stay : thinned.config.bounds ≡ bounds
  pub events : thinned.events ≡ length log
  pub variables : thinned.variables ≡ variables_in log
  pub variables_left : thinned.variables_left ≡ variables_in thinned.left.trace.events

-- it can not, for this reason; or a growth was refused
abbrev pub IsFaultOfEvents : Bounds → List Event → ThinFault → Type 0
IsFaultOfEvents bounds log (Refused p refusal) = IsFirstFlaw bounds log p (flaw.Refused refusal)
IsFaultOfEvents bounds log (WrongValue p) = IsFirstFlaw bounds log p flaw.WrongValue
IsFaultOfEvents bounds log Memory = GrowthRefused
IsFaultOfEvents bounds log (Log fault) = ⊥

-- ---- by the bytes of an input; where they are not known nothing is said of them

-- the bytes are the text of these bounds and events
abbrev pub IsThinInput : Option (List ℕ) → Bounds → List Event → Type 0
IsThinInput read bounds log = IfSome read (λ bytes. IsLogText bytes bounds log)

-- the log of the input, thinned without what is left out of it
pub record IsThinningOf (omitted : Omitted) (read : Option (List ℕ)) (thinned : ThinnedLog) : Type 0 where
  pub log : List Event
  pub text : IsThinInput read thinned.config.bounds log
  pub thins : IsThinning thinned.config.bounds omitted log thinned

-- the events of the input can not come about
pub record IsFaultOfThinInput (read : Option (List ℕ)) (fault : ThinFault) : Type 0 where
  pub bounds : Bounds
  pub log : List Event
  pub text : IsThinInput read bounds log
  pub reason : IsFaultOfEvents bounds log fault

-- the input is no log, for this reason, or its events can not come about
abbrev pub IsFaultOf : Option (List ℕ) → ThinFault → Type 0
IsFaultOf read (Log fault) =
    IfSome read (λ bytes. ReadsAs MAX_EVENTS bytes (Err fault)) × (fault ≡ log_fault.Memory → GrowthRefused)
IsFaultOf read fault = IsFaultOfThinInput read fault

-- how often the source has failed then
abbrev pub failures_by : {X : Type 0} → Result X ThinFault → ℕ → ℕ
failures_by (Err (Log log_fault.Read)) failures = with_failure failures
failures_by result failures = failures
