-- What threads and labels are called in a report.
use Rattle.std.specs.Prelude.{ℕ, List, decimal, Option, None, option_map, slice_get, string_bytes}
use Rattle.std.specs.Option.{option_map_or}
use Rattle.velo_names.specs.declared.kind.NameKind.{NameKind}
use Rattle.velo_names.specs.Names.{name_of}
use Rattle.velo_report.specs.declared.names.Names.{Names}
use Rattle.velo_report.specs.declared.names.Names.TheVariants.{Numbers, Words, Listed}

-- the name of a thread, if it has one that stands before its count
abbrev pub thread_name : Names → ℕ → Option (List ℕ)
thread_name Numbers t = None
thread_name (Listed names) t = None
thread_name (Words threads labels) t = option_map (λ name. string_bytes name) (slice_get threads.now t)

-- a label's name, or else its number
abbrev pub label_word : Names → ℕ → List ℕ
label_word Numbers l = decimal l
label_word (Listed names) l = decimal l
label_word (Words threads labels) l = option_map_or (λ name. string_bytes name) (slice_get labels.now l) (decimal l)

-- the name that a file of names gives, which stands behind a number at the end of its line, if there is one
abbrev pub name_behind : Names → NameKind → ℕ → Option (List ℕ)
name_behind Numbers kind n = None
name_behind (Words threads labels) kind n = None
name_behind (Listed names) kind n = name_of names.now kind n
