-- The number of a fault. The numbers are those of a file of names, of which a list has no second: a
-- label may be said again.
use Rattle.std.specs.Prelude.{ℕ, ◌+◌, Option, Some, None}
use Rattle.velo_names.specs.declared.limits.TheConstants.{MAX_NAME_LINES}
use Rattle.velo_sidecars.specs.declared.list_fault.ListFault.{ListFault}
use Rattle.velo_sidecars.specs.declared.list_fault.ListFault.TheVariants.{BadLine, TooManyLines, TooManyBytes, NotText, Memory}

-- its number, if it is one of the file
abbrev pub fault_number : ListFault → Option ℕ
fault_number (BadLine n) = Some 1
fault_number TooManyLines = Some 3
fault_number TooManyBytes = Some 3
fault_number NotText = Some 4
fault_number Memory = None

-- its line, or 0 where it is one of the whole file
abbrev pub fault_line : ListFault → ℕ
fault_line (BadLine n) = n
fault_line TooManyLines = MAX_NAME_LINES + 1
fault_line TooManyBytes = 0
fault_line NotText = 0
fault_line Memory = 0
