-- How often a source has failed, by a command's fate.
use Rattle.std.specs.Prelude.{◌≡◌, ℕ}
use Rattle.velo_bytes.specs.Device.{with_failure}
use Rattle.velo_check.specs.Reading.{Reading}
use Rattle.velo_logtext.specs.declared.fault.LogFault.TheVariants.{Read}
use Rattle.velo_check.specs.declared.fault.CheckFault.TheVariants.{Log}
use Rattle.velo_check.specs.declared.fate.Fate.{Fate}
use Rattle.velo_check.specs.declared.fate.Fate.TheVariants.{Check, ReadFailed}

-- the count of failures of a source after this fate: once more if it is a failed read, and only
-- then
abbrev pub failures_told : Fate → ℕ → ℕ
failures_told (Check (Log Read)) failures = with_failure failures
failures_told ReadFailed failures = with_failure failures
failures_told f failures = failures

-- the source failed once more if the fate is a failed read, and else not
abbrev pub FailuresAsTold : Reading → Fate → Type 0
FailuresAsTold read f = read.failures_after ≡ failures_told f read.failures_before
