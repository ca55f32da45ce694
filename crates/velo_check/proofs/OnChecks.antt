-- What a check of a log comes to.
use Rattle.std.proofs.Common.{◌≡◌, ℕ, Bool, List, Option, Ok, Err, refl, inl, inr}
use Rattle.std.specs.Prelude.{Result}
use Rattle.velo_world.specs.World.{WorldState}
use Rattle.velo_check.specs.declared.verdict.Verdict.{Verdict}
use Rattle.velo_check.specs.declared.fault.CheckFault.{CheckFault}
use Rattle.velo_check.specs.declared.fault.CheckFault.TheVariants.{Log, Write, Memory}
use Rattle.velo_check.specs.declared.fate.Fate.TheVariants.{Check, Finished}
use Rattle.velo_check.specs.Check.{Checks, fate_of}
use Rattle.velo_check.specs.Input.{ComesAbout, IsFaultOfInput}
use Rattle.velo_check.specs.Verdict.{is_alarm}
use Rattle.velo_check.specs.Delivery.{printing, silent}
use Rattle.velo_check.specs.Failures.{failures_told}
use Rattle.velo_check.specs.Writing.{Writing, WritesNothing}
use Rattle.velo_check.specs.Steps.{Shows}
use Rattle.velo_worker.specs.declared.ending.Ending.TheVariants.{Done}
use Rattle.velo_report.specs.declared.names.Names.{Names}

-- what is shown of the world of a log that came about is the answer to the input
pub checked_by : (names : Names) (limit nodes : ℕ) (certificate : Bool) (read : Option (List ℕ)) (w : WorldState) (out : Writing) (result : Result Verdict CheckFault)
    → ComesAbout limit read w.config.bounds w.log → Shows names certificate w out result → Checks names limit nodes certificate read out (fate_of result)
checked_by names limit nodes certificate read w out (Ok answer) log shows = (
  printing shows.1.0 (Finished Done (is_alarm answer)),
  inl (record { bounds = w.config.bounds; log = w.log; comes_about = log; text = shows.1.0; output = shows.1.1; verdict = answer; is_verdict = shows.0; said = refl }),
  (refl, shows.1.2),
)
checked_by names limit nodes certificate read w out (Err Write) log shows = (
  printing shows.1.0 (Finished Done (is_alarm shows.0.0)),
  inl (record { bounds = w.config.bounds; log = w.log; comes_about = log; text = shows.1.0; output = shows.1.1; verdict = shows.0.0; is_verdict = shows.0.1; said = refl }),
  shows.1.2,
)
checked_by names limit nodes certificate read w out (Err Memory) log shows = (silent (Check Memory), inr (Memory, shows.0, refl), (refl, shows.1))
checked_by names limit nodes certificate read w out (Err fault) log shows = absurd shows

-- writing it reads nothing
pub reads_nothing : (names : Names) (certificate : Bool) (w : WorldState) (out : Writing) (result : Result Verdict CheckFault) (n : ℕ) → Shows names certificate w out result → failures_told (fate_of result) n ≡ n
reads_nothing names certificate w out (Err (Log fault)) n shows = absurd shows
reads_nothing names certificate w out result n shows = refl

-- a fault of the input is told, with nothing written
pub faulty : (names : Names) (limit nodes : ℕ) (certificate : Bool) (read : Option (List ℕ)) (out : Writing) (fault : CheckFault) → IsFaultOfInput limit nodes read fault
    → WritesNothing out → Checks names limit nodes certificate read out (fate_of (Err fault))
faulty names limit nodes certificate read out Write is nothing = absurd is
faulty names limit nodes certificate read out fault is nothing = (silent (Check fault), inr (fault, is, refl), (refl, nothing))

-- the source's failures behind a fault
pub failures_so : (limit nodes : ℕ) (read : Option (List ℕ)) (fault : CheckFault) (after before : ℕ) → IsFaultOfInput limit nodes read fault
    → after ≡ failures_told (Check fault) before → after ≡ failures_told (fate_of (Err fault)) before
failures_so limit nodes read Write after before is h = h
failures_so limit nodes read fault after before is h = h
