-- How a fault is reported.
use Rattle.std.specs.Prelude.{ℕ, Option, Some, None}
use Rattle.velo_sidecars.specs.declared.site_fault.SitesFault.{SitesFault}
use Rattle.velo_sidecars.specs.declared.site_fault.SitesFault.TheVariants.{BadLine, EndsEarly, TooManyBytes, NotText, Memory}

-- its number, if it is one of the file
abbrev pub fault_number : SitesFault → Option ℕ
fault_number (BadLine n) = Some 1
fault_number (EndsEarly n) = Some 2
fault_number TooManyBytes = Some 3
fault_number NotText = Some 4
fault_number Memory = None

-- its line, or 0 where it is one of the whole file
abbrev pub fault_line : SitesFault → ℕ
fault_line (BadLine n) = n
fault_line (EndsEarly n) = n
fault_line TooManyBytes = 0
fault_line NotText = 0
fault_line Memory = 0
