-- The lines of a file of names, and what a line says.
use Rattle.std.specs.Prelude.{◌≡◌, ℕ, ◌-◌, ◌^◌, ◌≤◌, ◌==◌, ◌||◌, ◌&&◌, nat_lt, nat_le, not, Bool, true, false, IsTrue, List, [], ◌∷◌, ◌++◌, length, codes, decimal, Option, Some, None, if◌then◌else◌}
use Rattle.std.specs.Char.{is_ascii_digit}
use Rattle.std.specs.List.{onto_first, list_all}
use Rattle.velo_bytes.specs.Parsing.{◌>>=◌, number_at, whole_number, after_word, by_word}
use Rattle.velo_names.specs.declared.limits.TheConstants.{MAX_NAME_BYTES}
use Rattle.velo_names.specs.declared.kind.NameKind.{NameKind}
use Rattle.velo_names.specs.declared.kind.NameKind.TheVariants.{Thread, Variable, Lock, Label}

-- ---- what is named

-- a number of a kind, and its name
pub record Naming : Type 0 where
  pub kind : NameKind
  pub number : ℕ
  pub name : List ℕ

abbrev pub kind_text : NameKind → List ℕ
kind_text Thread = codes "thread"
kind_text Variable = codes "variable"
kind_text Lock = codes "lock"
kind_text Label = codes "label"

-- the greatest number of a kind, which is that of its ids
abbrev pub greatest : NameKind → ℕ
greatest Thread = 255
greatest Variable = 65535
greatest Lock = 65535
greatest Label = 4294967295

-- A control character of ASCII, or the second byte of one of U+0080 to U+009F, by the byte before
-- it
abbrev pub is_control : ℕ → ℕ → Bool
is_control before b = nat_lt b 32 || (b == 127 || (before == 194 && (nat_le 128 b && nat_lt b 160)))

-- there is one in the bytes after that byte
abbrev pub has_control : ℕ → List ℕ → Bool
has_control before [] = false
has_control before (b ∷ bs) = is_control before b || has_control b bs

-- 1 to 200 bytes without a control character
abbrev pub is_name : List ℕ → Bool
is_name name = nat_lt 0 (length name) && (nat_le (length name) MAX_NAME_BYTES && not (has_control 0 name))

-- what may be said
pub record IsNaming (x : Naming) : Type 0 where
  pub number : x.number ≤ greatest x.kind
  pub name : IsTrue (is_name x.name)

-- ---- lines

-- the lines, without their newlines; the last one need not have one
abbrev pub lines : List ℕ → List (List ℕ)
lines [] = []
lines (b ∷ bs) = if b == 10 then [] ∷ lines bs else onto_first b (lines bs)

-- an empty line or a comment says nothing
abbrev pub is_silent : List ℕ → Bool
is_silent [] = true
is_silent (b ∷ bs) = b == 35

-- the line that says a name
abbrev pub naming_text : Naming → List ℕ
naming_text x = kind_text x.kind ++ (codes " " ++ (decimal x.number ++ (codes " " ++ x.name)))

-- what a line says after its kind
abbrev pub name_at : NameKind → ℕ → List ℕ → Option Naming
name_at kind n bytes = if is_name bytes then Some (record { kind = kind; number = n; name = bytes }) else None

abbrev pub number_and_name_at : NameKind → List ℕ → Option Naming
number_and_name_at kind bytes = do
  n ← number_at (greatest kind) bytes
  name ← after_word (codes " ") n.1
  name_at kind n.0 name

-- what a line says, if it says a name
unfoldable pub naming_of : List ℕ → Option Naming
naming_of line =
    by_word (after_word (codes "thread ") line) (number_and_name_at Thread)
    (by_word (after_word (codes "variable ") line) (number_and_name_at Variable)
    (by_word (after_word (codes "lock ") line) (number_and_name_at Lock)
    (by_word (after_word (codes "label ") line) (number_and_name_at Label)
    None)))

-- ---- arguments

-- digits alone
abbrev pub is_number : List ℕ → Bool
is_number bytes = nat_lt 0 (length bytes) && list_all is_ascii_digit bytes

-- the number of a kind that the bytes are, if they are one
abbrev pub number_of_kind : NameKind → List ℕ → Option ℕ
number_of_kind kind bytes = whole_number (greatest kind) bytes
