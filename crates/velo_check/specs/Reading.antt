-- What is done to the source of an input, and what reading all of it gives.
use Rattle.std.specs.Io.KnownBytes.{Consumes, IsAtEnd}
use Rattle.std.specs.Prelude.{◌≡◌, ◌≤◌, ◌++◌, [], ⊤, ℕ, List, length, Option, Some, None, Result, Ok, Err}
use Rattle.velo_bytes.specs.Device.{with_failure}
use Rattle.velo_check.specs.declared.reading.ReadFault.{ReadFault}
use Rattle.velo_check.specs.declared.reading.ReadFault.TheVariants as read_fault

-- a source: the bytes that it still gives, if they are known, and how often it has failed before
-- and after
pub record Reading : Type 0 where
  pub bytes : Option (List ℕ)
  pub failures_before : ℕ
  pub failures_after : ℕ

abbrev pub reading : {S : Type 0} → (S → Option (List ℕ)) → (S → ℕ) → S → S → Reading
reading remaining failures old new =
    record {
      bytes = remaining old;
      failures_before = failures old;
      failures_after = failures new;
    }

-- ---- reading a whole source

-- the bytes are all that the source gives, where they are known; or they are more than the most
-- that are wanted, and a beginning
abbrev pub IsReadOf : ℕ → Option (List ℕ) → List ℕ → Type 0
IsReadOf most None bytes = ⊤
IsReadOf most (Some all) bytes =
    (rest : List ℕ) × (all ≡ bytes ++ rest) × (length bytes ≤ most → rest ≡ [])

-- the bytes grew by a piece of what the source gives, of so many bytes, and of none only at its end
pub record GrowsByPiece (before after : Option (List ℕ)) (old new : List ℕ) (count : ℕ)
    : Type 0 where
  pub piece : List ℕ
  pub grown : new ≡ old ++ piece
  pub given : Consumes before after piece
  pub last : count ≡ 0 → IsAtEnd after

-- the count of failures of the source after a read
abbrev pub failures_by : {X : Type 0} → Result X ReadFault → ℕ → ℕ
failures_by (Ok x) failures = failures
failures_by (Err read_fault.Failed) failures = with_failure failures
failures_by (Err read_fault.Memory) failures = failures
