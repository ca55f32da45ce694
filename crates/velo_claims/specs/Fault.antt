-- How a fault is reported.
use Rattle.std.specs.Prelude.{ℕ, Option, Some, None}
use Rattle.velo_claims.specs.declared.fault.ReportFault.{ReportFault}
use Rattle.velo_claims.specs.declared.fault.ReportFault.TheVariants.{BadLine, EndsEarly, TooManyBytes, Memory}

-- its number, if it is one of the text
abbrev pub fault_number : ReportFault → Option ℕ
fault_number (BadLine n) = Some 1
fault_number (EndsEarly n) = Some 2
fault_number TooManyBytes = Some 3
fault_number Memory = None

-- its line, or 0 where it is one of the whole text
abbrev pub fault_line : ReportFault → ℕ
fault_line (BadLine n) = n
fault_line (EndsEarly n) = n
fault_line TooManyBytes = 0
fault_line Memory = 0
