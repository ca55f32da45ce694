use Rattle.std.proofs.Common.{Err, ap, inl, inr, refl}
use Rattle.velo_logtext.specs.declared.fault.LogFault.{LogFault}
use Rattle.velo_check.specs.declared.fault.CheckFault.TheVariants.{Log}
use Rattle.velo_check.specs.declared.fate.Fate.TheVariants.{Check}
use Rattle.velo_check.specs.Carrying.{carried}
use Rattle.velo_check.specs.Delivery.{silent}
use Rattle.velo_check.proofs.OnInputs.{input_found, read_failed}
use Rattle.velo_check.proofs.carrying.carry_run.Goals as goal

pub returns-in-Err-clause-answer : goal.returns-in-Err-clause-answer
returns-in-Err-clause-answer g c = (
  silent (Check (Log c.in-Err.fault)),
  inr (c.in-Err.fault, (c.in-Err.ensures.found, λ e. c.in-Err.ensures.memory (ap (λ (f : LogFault). Err f) e)), refl),
  (refl, (refl, refl)),
)

pub returns-in-Err-clause-read : goal.returns-in-Err-clause-read
returns-in-Err-clause-read g c = read_failed c.in-Err.fault _ _ c.in-Err.ensures.failures

pub returns-in-Ok-written-clause-answer : goal.returns-in-Ok-written-clause-answer
returns-in-Ok-written-clause-answer g c = (
  carried c.in-Ok.read.0 c.in-Ok.read.1.events,
  inl (c.in-Ok.read.0, c.in-Ok.read.1.events, input_found _ _ _ _ c.in-Ok.ensures.found, refl),
  (refl, (c.in-Ok-written.ensures.ok, c.in-Ok-written.ensures.no_failure)),
)

pub returns-in-Err-written-clause-answer : goal.returns-in-Err-written-clause-answer
returns-in-Err-written-clause-answer g c = (
  carried c.in-Ok.read.0 c.in-Ok.read.1.events,
  inl (c.in-Ok.read.0, c.in-Ok.read.1.events, input_found _ _ _ _ c.in-Ok.ensures.found, refl),
  (c.in-Err-written.ensures.err, c.in-Err-written.ensures.failure),
)
