-- What a list means, by the names of a file.
use Rattle.std.specs.Prelude.{ℕ, ◌==◌, Bool, true, false, List, [], ◌∷◌, ◌++◌, Option, Some, None, fold, length, if◌then◌else◌}
use Rattle.std.specs.List.{flat_map, list_any}
use Rattle.std.specs.Str.{bytes_eq}
use Rattle.velo_names.specs.Names.{NameLists, meant_by, name_of, numbers_of}
use Rattle.velo_names.specs.declared.kind.NameKind.{NameKind}
use Rattle.velo_names.specs.declared.kind.NameKind.TheVariants.{Thread, Variable, Lock, Label}
use Rattle.velo_filter.specs.Left.{is_listed}
use Rattle.velo_sidecars.specs.ListLine.{Entry, Mention}
use Rattle.velo_sidecars.specs.ListLine.Entry.{Of, AllLocks}
use Rattle.velo_sidecars.specs.ListLine.Mention.{Number, Name, Word, Told}

-- ---- what a mention means, of this kind

-- the numbers of this name; but where it is nobody's, this number
abbrev pub numbers_by : NameLists → NameKind → ℕ → List ℕ → List ℕ
numbers_by names kind n name =
    if length (numbers_of names kind name) == 0 then n ∷ [] else numbers_of names kind name

-- the same where the number has no name; and where it has one, it is the number if that is this
-- name
abbrev pub numbers_if : NameLists → NameKind → ℕ → List ℕ → Option (List ℕ) → List ℕ
numbers_if names kind n name None = numbers_by names kind n name
numbers_if names kind n name (Some its_name) =
    if bytes_eq name its_name then n ∷ [] else numbers_of names kind name

-- What a line of an audit with a number and a name means: this number, while the names say so or
-- know of neither; else it is known by its name, whatever numbers that has now.
abbrev pub numbers_told : NameLists → NameKind → ℕ → List ℕ → List ℕ
numbers_told names kind n name = numbers_if names kind n name (name_of names kind n)

-- a name or a word that is nobody's means none
abbrev pub numbers_meant : NameLists → NameKind → Mention → List ℕ
numbers_meant names kind (Number n) = n ∷ []
numbers_meant names kind (Name name) = numbers_of names kind name
numbers_meant names kind (Word word) = meant_by names kind word
numbers_meant names kind (Told n name) = numbers_told names kind n name

-- ---- what the entries mean

abbrev pub is_same : NameKind → NameKind → Bool
is_same Thread Thread = true
is_same Variable Variable = true
is_same Lock Lock = true
is_same Label Label = true
is_same kind other = false

-- an entry means numbers of its own kind
abbrev pub numbers_in : NameLists → NameKind → Entry → List ℕ
numbers_in names kind (Of its_kind mention) =
    if is_same its_kind kind then numbers_meant names kind mention else []
numbers_in names kind said = []

-- the number goes last, unless it is there
abbrev pub with_number : List ℕ → ℕ → List ℕ
with_number numbers n = if is_listed numbers n then numbers else numbers ++ n ∷ []

-- the numbers of a kind that the entries mean, each once, where it comes first
abbrev pub numbers_known : NameLists → NameKind → List Entry → List ℕ
numbers_known names kind entries = fold with_number [] (flat_map (numbers_in names kind) entries)

-- the entry says that all locks are left out
abbrev pub is_all_locks : Entry → Bool
is_all_locks AllLocks = true
is_all_locks said = false

-- one of them says so
abbrev pub has_all_locks : List Entry → Bool
has_all_locks entries = list_any is_all_locks entries
