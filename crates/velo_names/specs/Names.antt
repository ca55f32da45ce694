-- The mapping that a file of names says.
use Rattle.std.specs.Prelude.{◌≡◌, ℕ, ◌+◌, ◌<◌, ◌≤◌, nat_eq, nat_lt, List, [], ◌∷◌, ◌++◌, length, map, filter, Option, None, is_some, Result, Ok, Err, if◌then◌else◌}
use Rattle.std.specs.List.{flat_map, enumerate_from, AllByRecursion}
use Rattle.std.specs.Map.{lookup}
use Rattle.std.specs.Option.{option_map_or, option_to_list}
use Rattle.std.specs.Str.{IsUtf8, bytes_eq}
use Rattle.velo_events.specs.Refusals.{GrowthRefused}
use Rattle.velo_names.specs.declared.limits.TheConstants.{MAX_NAME_LINES, MAX_NAMES_BYTES}
use Rattle.velo_names.specs.declared.fault.NamesFault.{NamesFault}
use Rattle.velo_names.specs.declared.fault.NamesFault.TheVariants.{BadLine, NamedTwice, TooManyLines, TooManyBytes, NotText, Memory}
use Rattle.velo_names.specs.declared.kind.NameKind.{NameKind}
use Rattle.velo_names.specs.declared.kind.NameKind.TheVariants.{Thread, Variable, Lock, Label}
use Rattle.velo_names.specs.Pattern.{is_like}
use Rattle.velo_names.specs.Line.{Naming, IsNaming, naming_text, naming_of, is_silent, lines, is_number, number_of_kind}

-- numbers with their names, in the order of the lines
abbrev pub NameList : Type 0
NameList = List (ℕ × List ℕ)

-- one for each kind
pub record NameLists : Type 0 where
  pub threads : NameList
  pub variables : NameList
  pub locks : NameList
  pub labels : NameList

abbrev pub no_names : NameLists
no_names = record { threads = []; variables = []; locks = []; labels = [] }

abbrev pub list_of : NameKind → NameLists → NameList
list_of Thread names = names.threads
list_of Variable names = names.variables
list_of Lock names = names.locks
list_of Label names = names.labels

abbrev pub with_list : NameKind → NameList → NameLists → NameLists
with_list Thread list names = record names { threads = list }
with_list Variable list names = record names { variables = list }
with_list Lock list names = record names { locks = list }
with_list Label list names = record names { labels = list }

-- ---- what it is asked

abbrev pub name_in : NameList → ℕ → Option (List ℕ)
name_in list n = lookup (nat_eq n) list

-- the name of a number, if it has one
abbrev pub name_of : NameLists → NameKind → ℕ → Option (List ℕ)
name_of names kind n = name_in (list_of kind names) n

-- the numbers of a name, in the order of their lines
abbrev pub numbers_in : NameList → List ℕ → List ℕ
numbers_in list name = map (λ e. e.0) (filter (λ e. bytes_eq name e.1) list)

abbrev pub numbers_of : NameLists → NameKind → List ℕ → List ℕ
numbers_of names kind name = numbers_in (list_of kind names) name

-- the numbers whose names are like a pattern, in the order of their lines
abbrev pub numbers_like : NameList → List ℕ → List ℕ
numbers_like list pattern = map (λ e. e.0) (filter (λ e. is_like pattern e.1) list)

-- What an argument means: digits alone are a number, which has to be one of the kind; all else is a
-- pattern of names
abbrev pub meant_by : NameLists → NameKind → List ℕ → List ℕ
meant_by names kind argument = if is_number argument then option_to_list (number_of_kind kind argument) else numbers_like (list_of kind names) argument

-- ---- what a text says

-- the list with one more name, or the fault of the line
abbrev pub list_with : NameList → ℕ → List ℕ → ℕ → Result NameList NamesFault
list_with list number name n = if is_some (name_in list number) then Err (NamedTwice n) else Ok (list ++ (number, name) ∷ [])

abbrev pub put_list : NameKind → NameLists → Result NameList NamesFault → Result NameLists NamesFault
put_list kind names (Ok list) = Ok (with_list kind list names)
put_list kind names (Err fault) = Err fault

abbrev pub names_with : NameLists → Naming → ℕ → Result NameLists NamesFault
names_with names x n = put_list x.kind names (list_with (list_of x.kind names) x.number x.name n)

-- the names after one more line, which has this number, or its fault
unfoldable pub names_after : NameLists → ℕ → List ℕ → Result NameLists NamesFault
names_after names n line =
    if nat_lt MAX_NAME_LINES n then Err TooManyLines
    else (if is_silent line then Ok names
    else option_map_or (λ x. names_with names x n) (naming_of line) (Err (BadLine n)))

abbrev pub and_then : Result NameLists NamesFault → (NameLists → Result NameLists NamesFault) → Result NameLists NamesFault
and_then (Ok names) f = f names
and_then (Err fault) f = Err fault

-- the names after these lines, which come after n others, or the fault of the first that has one
abbrev pub names_from : NameLists → ℕ → List (List ℕ) → Result NameLists NamesFault
names_from names n [] = Ok names
names_from names n (line ∷ others) = and_then (names_after names (n + 1) line) (λ more. names_from more (n + 1) others)

-- a text, by its lines
abbrev pub names_in_text : List ℕ → Result NameLists NamesFault
names_in_text text = names_from no_names 0 (lines text)

-- ---- what the bytes of a file say

-- so few bytes, which are text
pub record IsText (bytes : List ℕ) : Type 0 where
  pub few : length bytes ≤ MAX_NAMES_BYTES
  pub utf8 : IsUtf8 bytes

-- What is wrong with the whole file comes before what is wrong with a line. No bytes say that
-- memory ran out.
abbrev pub Stands : List ℕ → Result NameLists NamesFault → Type 0
Stands bytes (Err TooManyBytes) = MAX_NAMES_BYTES < length bytes
Stands bytes (Err NotText) = (length bytes ≤ MAX_NAMES_BYTES) × (¬ IsUtf8 bytes)
Stands bytes (Err Memory) = ⊥
Stands bytes (Err (BadLine n)) = IsText bytes × (names_in_text bytes ≡ Err (BadLine n))
Stands bytes (Err (NamedTwice n)) = IsText bytes × (names_in_text bytes ≡ Err (NamedTwice n))
Stands bytes (Err TooManyLines) = IsText bytes × (names_in_text bytes ≡ Err TooManyLines)
Stands bytes (Ok names) = IsText bytes × (names_in_text bytes ≡ Ok names)

-- what a reader of the bytes returns: what they say, unless an allocation failed
abbrev pub ReadsAs : List ℕ → Result NameLists NamesFault → Type 0
ReadsAs bytes (Err Memory) = GrowthRefused
ReadsAs bytes (Ok names) = Stands bytes (Ok names)
ReadsAs bytes (Err fault) = Stands bytes (Err fault)

-- ---- the text of a mapping

abbrev pub naming_line : NameKind → ℕ × List ℕ → List ℕ
naming_line kind e = naming_text (record { kind = kind; number = e.0; name = e.1 }) ++ 10 ∷ []

abbrev pub list_text : NameKind → NameList → List ℕ
list_text kind list = flat_map (naming_line kind) list

-- names by their places, from 0 on
abbrev pub by_place : List (List ℕ) → NameList
by_place names = enumerate_from 0 names

-- the threads first, then variables, locks and labels
abbrev pub names_text : NameLists → List ℕ
names_text names = list_text Thread names.threads ++ (list_text Variable names.variables ++ (list_text Lock names.locks ++ list_text Label names.labels))

-- ---- which mappings have a text

abbrev pub FitsKind : NameKind → ℕ × List ℕ → Type 0
FitsKind kind e = IsNaming (record { kind = kind; number = e.0; name = e.1 })

-- no number of the list has a name in the one before it, and none is there twice
abbrev pub AreFresh : NameList → NameList → Type 0
AreFresh before [] = Unit {0}
AreFresh before (e ∷ es) = (name_in before e.0 ≡ None) × AreFresh (before ++ e ∷ []) es

pub record AreNames (kind : NameKind) (list : NameList) : Type 0 where
  pub fit : AllByRecursion (FitsKind kind) list
  pub fresh : AreFresh [] list

-- names that may be said, each number of a kind once, and not too many
pub record IsMapping (names : NameLists) : Type 0 where
  pub threads : AreNames Thread names.threads
  pub variables : AreNames Variable names.variables
  pub locks : AreNames Lock names.locks
  pub labels : AreNames Label names.labels
  pub few : length names.threads + (length names.variables + (length names.locks + length names.labels)) ≤ MAX_NAME_LINES
