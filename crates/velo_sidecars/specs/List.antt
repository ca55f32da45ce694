-- The entries in the bytes of a list of a scope.
use Rattle.std.specs.Prelude.{◌≡◌, ℕ, ◌+◌, ◌<◌, ◌≤◌, nat_lt, List, [], ◌∷◌, ◌++◌, length, Result, Ok, Err, if◌then◌else◌}
use Rattle.std.specs.Option.{option_map_or}
use Rattle.std.specs.Str.{IsUtf8}
use Rattle.velo_events.specs.Refusals.{GrowthRefused}
use Rattle.velo_names.specs.Line.{lines}
use Rattle.velo_names.specs.Names.{IsText}
use Rattle.velo_names.specs.declared.limits.TheConstants.{MAX_NAME_LINES, MAX_NAMES_BYTES}
use Rattle.velo_sidecars.specs.declared.list_fault.ListFault.{ListFault}
use Rattle.velo_sidecars.specs.declared.list_fault.ListFault.TheVariants.{BadLine, TooManyLines, TooManyBytes, NotText, Memory}
use Rattle.velo_sidecars.specs.declared.list_line.Scope.{Scope}
use Rattle.velo_sidecars.specs.ListLine.{Entry, entry_of}

-- ---- by its lines

-- the entries after one more line, which has this number, or its fault
unfoldable pub entries_after : Scope → List Entry → ℕ → List ℕ → Result (List Entry) ListFault
entries_after scope entries n line =
    if nat_lt MAX_NAME_LINES n then Err TooManyLines
    else option_map_or (λ e. Ok (entries ++ e ∷ [])) (entry_of scope line) (Err (BadLine n))

abbrev pub and_then : Result (List Entry) ListFault → (List Entry → Result (List Entry) ListFault)
    → Result (List Entry) ListFault
and_then (Ok entries) f = f entries
and_then (Err fault) f = Err fault

-- the entries after these lines, which come after n others, or the fault of the first that has one
abbrev pub entries_from : Scope → List Entry → ℕ → List (List ℕ) → Result (List Entry) ListFault
entries_from scope entries n [] = Ok entries
entries_from scope entries n (line ∷ others) =
    and_then (entries_after scope entries (n + 1) line) (λ more. entries_from scope more (n + 1) others)

-- a text, by its lines
abbrev pub entries_in_text : Scope → List ℕ → Result (List Entry) ListFault
entries_in_text scope text = entries_from scope [] 0 (lines text)

-- ---- what the bytes of a file say

-- What is wrong with the whole file comes before what is wrong with a line. No bytes say that
-- memory ran out.
abbrev pub Stands : Scope → List ℕ → Result (List Entry) ListFault → Type 0
Stands scope bytes (Err TooManyBytes) = MAX_NAMES_BYTES < length bytes
Stands scope bytes (Err NotText) = (length bytes ≤ MAX_NAMES_BYTES) × (¬ IsUtf8 bytes)
Stands scope bytes (Err Memory) = ⊥
Stands scope bytes (Err (BadLine n)) = IsText bytes × (entries_in_text scope bytes ≡ Err (BadLine n))
Stands scope bytes (Err TooManyLines) = IsText bytes × (entries_in_text scope bytes ≡ Err TooManyLines)
Stands scope bytes (Ok entries) = IsText bytes × (entries_in_text scope bytes ≡ Ok entries)

-- why a reader of the bytes returns none: their fault, or an allocation failed
abbrev pub HasFault : Scope → List ℕ → ListFault → Type 0
HasFault scope bytes Memory = GrowthRefused
HasFault scope bytes fault = Stands scope bytes (Err fault)
