-- The log of an input, or its fault.
use Rattle.std.proofs.Common.{◌≡◌, ℕ, List, Option, Some, None, Ok, Err, refl, subst}
use Rattle.std.specs.Prelude.{IfSome}
use Rattle.velo_events.specs.declared.config.Bounds.{Bounds}
use Rattle.velo_events.specs.declared.event.Event.{Event}
use Rattle.velo_logtext.specs.Finding.{ReadsAs}
use Rattle.velo_logtext.specs.Finding as reader
use Rattle.velo_logtext.specs.declared.fault.LogFault.{LogFault}
use Rattle.velo_logtext.specs.declared.fault.LogFault.TheVariants as log_fault
use Rattle.velo_events.specs.declared.config.Config.{Config}
use Rattle.velo_check.specs.declared.fault.CheckFault.{CheckFault}
use Rattle.velo_check.specs.declared.fault.CheckFault.TheVariants.{Log, Refused, WrongValue, Memory}
use Rattle.velo_check.specs.declared.fate.Fate.TheVariants.{Check}
use Rattle.velo_check.specs.Input.{IsFaultOfInput, IsInput}
use Rattle.velo_check.specs.Failures.{failures_told}
use Rattle.velo_check.specs.Faults.{IsFaultOfLog}
use Rattle.velo_world.specs.Faults.{IsRefusedAt, IsWrongValueAt}

-- what a reader found is the input
pub input_found : (read : Option (List ℕ)) (limit : ℕ) (bounds : Bounds) (log : List Event) → IfSome read (λ bytes. ReadsAs limit bytes (Ok (bounds, log))) → IsInput read bounds log
input_found (Some bytes) limit bounds log found = found.0
input_found None limit bounds log found = tt

-- what the reader says of its failures
pub read_failed : (fault : LogFault) (after before : ℕ) → after ≡ reader.failures_after {X = ℕ} (Err fault) before → after ≡ failures_told (Check (Log fault)) before
read_failed log_fault.Read after before h = h
read_failed fault after before h = h

-- a log that can't be done is a fault of the input, and the source has not failed
pub undone : (limit nodes : ℕ) (read : Option (List ℕ)) (config : Config) (log : List Event) → config.events ≡ limit → config.nodes ≡ nodes → IsInput read config.bounds log
    → (fault : CheckFault) → IsFaultOfLog config log fault → IsFaultOfInput limit nodes read fault
undone limit nodes read config log events few input (Refused p r) is =
    record { bounds = config.bounds; trace = log; input = input; reason = subst (λ n. IsRefusedAt n nodes config.bounds log p r) events (subst (λ n. IsRefusedAt config.events n config.bounds log p r) few is) }
undone limit nodes read config log events few input (WrongValue p) is =
    record { bounds = config.bounds; trace = log; input = input; reason = subst (λ n. IsWrongValueAt n config.bounds log p) events is }
undone limit nodes read config log events few input Memory is = is
undone limit nodes read config log events few input fault is = absurd is

pub undone_reads_nothing : (config : Config) (log : List Event) (fault : CheckFault) (n : ℕ) → IsFaultOfLog config log fault → failures_told (Check fault) n ≡ n
undone_reads_nothing config log (Log fault) n is = absurd is
undone_reads_nothing config log fault n is = refl
