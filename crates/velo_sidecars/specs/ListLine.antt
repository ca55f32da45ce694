-- What a line of a list of what is known says. The lines that an audit writes are such lines, and so
-- are those of predictions, so that their text is a list.
use Rattle.std.specs.Prelude.{ℕ, ◌-◌, ◌^◌, ◌==◌, ◌||◌, Bool, true, false, List, [], ◌∷◌, codes, Option, Some, None, is_some, option_map, if◌then◌else◌}
use Rattle.std.specs.Option.{option_map_or}
use Rattle.std.specs.Str.{bytes_eq}
use Rattle.velo_bytes.specs.Parsing.{◌>>=◌, number_at, after_word, by_word}
use Rattle.velo_names.specs.Line.{greatest, is_name, is_number, number_of_kind}
use Rattle.velo_names.specs.declared.kind.NameKind.{NameKind}
use Rattle.velo_names.specs.declared.kind.NameKind.TheVariants.{Label, Lock, Variable}
use Rattle.velo_sidecars.specs.declared.list_line.Scope.{Scope}
use Rattle.velo_sidecars.specs.declared.list_line.Scope.TheVariants.{Labels, Everything}

-- how a line mentions labels, locks or variables
pub data Mention : Type 0 where
  -- the one of this number
  Number : ℕ → Mention
  -- those of this name
  Name : List ℕ → Mention
  -- those that this word of an option means
  Word : List ℕ → Mention
  -- one that an audit printed with its name
  Told : ℕ → List ℕ → Mention

-- what a line says
pub data Entry : Type 0 where
  -- nothing
  Nothing : Entry
  -- that those of this kind are known
  Of : NameKind → Mention → Entry
  -- that all locks are left out
  AllLocks : Entry

-- ---- what says nothing

-- an empty line, a comment, a line of a witness, which begins with a space
abbrev pub is_silent : List ℕ → Bool
is_silent [] = true
is_silent (b ∷ bs) = b == 35 || b == 32

-- the line is a number between these words
abbrev pub is_counted : List ℕ → List ℕ → List ℕ → Bool
is_counted before behind line =
    option_map_or (λ n. bytes_eq n.1 behind)
    (after_word before line >>= number_at (2 ^ 64 - 1)) false

-- "atomic 3 labels", "rounds 2"
abbrev pub is_audit_count : List ℕ → Bool
is_audit_count line =
    is_counted (codes "atomic ") (codes " labels") line || is_counted (codes "rounds ") [] line

-- "nothing found in 600 tries", "nothing else found in 600 tries", "deadlock? 2 threads wait in a circle"
abbrev pub is_predict_count : List ℕ → Bool
is_predict_count line =
    is_counted (codes "nothing found in ") (codes " tries") line
    || (is_counted (codes "nothing else found in ") (codes " tries") line
    || is_counted (codes "deadlock? ") (codes " threads wait in a circle") line)

abbrev pub is_count : List ℕ → Bool
is_count line = is_audit_count line || is_predict_count line

-- ---- what an audit prints

-- after a number there is nothing, or a space and a name
abbrev pub named_at : ℕ → List ℕ → Option Mention
named_at n [] = Some (Number n)
named_at n (b ∷ bs) =
    after_word (codes " ") (b ∷ bs) >>= λ name. if is_name name then Some (Told n name) else None

-- a number of a kind, and its name if it has one
abbrev pub told_at : NameKind → List ℕ → Option Entry
told_at kind bytes =
    number_at (greatest kind) bytes >>= λ n. option_map (Of kind) (named_at n.0 n.1)

-- what is said of locks and variables, which says nothing in a list of labels
abbrev pub in_scope : Scope → Entry → Entry
in_scope Labels said = Nothing
in_scope Everything said = said

-- a lock or a variable that was left out
abbrev pub other_at : Scope → NameKind → List ℕ → Option Entry
other_at scope kind bytes = option_map (in_scope scope) (told_at kind bytes)

-- that all locks were left out
abbrev pub is_of_all_locks : List ℕ → Bool
is_of_all_locks line = bytes_eq line (codes "left out all locks")

-- ---- what is written by hand

-- a word of an option: digits alone are a number of the kind, and all else has to be a name
abbrev pub is_word : NameKind → List ℕ → Bool
is_word kind word =
    if is_number word then is_some (number_of_kind kind word) else is_name word

abbrev pub word_at : NameKind → List ℕ → Option Entry
word_at kind word = if is_word kind word then Some (Of kind (Word word)) else None

-- ---- all lines

-- digits alone are the number of a label, and all else is a name
abbrev pub label_entry : List ℕ → Option Entry
label_entry line =
    if is_number line then option_map (λ n. Of Label (Number n)) (number_of_kind Label line)
    else (if is_name line then Some (Of Label (Name line)) else None)

-- locks, variables, all locks, or else labels
unfoldable pub wide_entry : List ℕ → Option Entry
wide_entry line =
    if bytes_eq line (codes "all locks") then Some AllLocks
    else by_word (after_word (codes "lock ") line) (word_at Lock)
    (by_word (after_word (codes "variable ") line) (word_at Variable)
    (label_entry line))

-- what a line says by itself
abbrev pub bare_entry : Scope → List ℕ → Option Entry
bare_entry Labels line = label_entry line
bare_entry Everything line = wide_entry line

-- what follows one of the words that an audit writes before a number, or predictions do, or else the
-- line itself
unfoldable pub told_entry : Scope → List ℕ → Option Entry
told_entry scope line =
    by_word (after_word (codes "not atomic ") line) (told_at Label)
    (by_word (after_word (codes "not atomic? ") line) (told_at Label)
    (by_word (after_word (codes "left out label ") line) (told_at Label)
    (by_word (after_word (codes "left out lock ") line) (other_at scope Lock)
    (by_word (after_word (codes "left out variable ") line) (other_at scope Variable)
    (bare_entry scope line)))))

-- what the line says, if it is an entry
abbrev pub entry_of : Scope → List ℕ → Option Entry
entry_of scope line =
    if is_silent line || is_count line then Some Nothing
    else (if is_of_all_locks line then Some (in_scope scope AllLocks)
    else told_entry scope line)
