-- What is read, and what is wrong with it.
use Rattle.std.proofs.Common.{◌≡◌, ℕ, List, Option, Some, None, Ok, Err}
use Rattle.std.specs.Prelude.{IfSome}
use Rattle.velo_events.specs.declared.config.Bounds.{Bounds}
use Rattle.velo_events.specs.declared.event.Event.{Event}
use Rattle.velo_logtext.specs.declared.fault.LogFault.{LogFault}
use Rattle.velo_logtext.specs.declared.fault.LogFault.TheVariants as log_fault
use Rattle.velo_logtext.specs.Finding.{ReadsAs, failures_after}
use Rattle.velo_thinning.specs.declared.reading.ThinFault.{ThinFault}
use Rattle.velo_thinning.specs.declared.reading.ThinFault.TheVariants.{Log, Refused, WrongValue, Memory}
use Rattle.velo_thinning.specs.Reading.{IsThinInput, IsFaultOfEvents, IsFaultOf, failures_by}

pub text_found : (read : Option (List ℕ)) (limit : ℕ) (bounds : Bounds) (log : List Event) → IfSome read (λ bytes. ReadsAs limit bytes (Ok (bounds, log))) → IsThinInput read bounds log
text_found (Some bytes) limit bounds log found = found.0
text_found None limit bounds log found = tt

pub failed_by : (fault : LogFault) (after before : ℕ) → after ≡ failures_after {X = ℕ} (Err fault) before → after ≡ failures_by {X = ℕ} (Err (Log fault)) before
failed_by log_fault.Read after before h = h
failed_by fault after before h = h

pub fault_found : (read : Option (List ℕ)) (bounds : Bounds) (log : List Event) (fault : ThinFault) → IsThinInput read bounds log → IsFaultOfEvents bounds log fault → IsFaultOf read fault
fault_found read bounds log (Refused p refusal) text w = record { bounds = bounds; log = log; text = text; reason = w }
fault_found read bounds log (WrongValue p) text w = record { bounds = bounds; log = log; text = text; reason = w }
fault_found read bounds log Memory text w = record { bounds = bounds; log = log; text = text; reason = w }
fault_found read bounds log (Log fault) text w = absurd w
