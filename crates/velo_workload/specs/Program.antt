-- The program that a text means.
use Rattle.std.specs.Prelude.{ℕ, ◌≡◌, ◌≤◌, ◌+◌, IsTrue, List, [], ◌∷◌, ◌++◌, length, position, Option, Some, None, is_some, option_map, Result, Ok, Err, if◌then◌else◌}
use Rattle.std.specs.List.{AllByRecursion}
use Rattle.std.specs.Option.{option_to_list}
use Rattle.std.specs.Str.{bytes_eq}
use Rattle.velo_events.specs.Refusals.{GrowthRefused}
use Rattle.velo_events.specs.declared.config.Bounds.{Bounds}
use Rattle.velo_events.specs.declared.limits.TheConstants.{MAX_THREADS, MAX_LOCKS}
use Rattle.velo_workload.specs.declared.limits.TheConstants.{MAX_VARIABLES, MAX_STATEMENTS}
use Rattle.velo_workload.specs.declared.fault.WorkFault.{WorkFault}
use Rattle.velo_workload.specs.declared.fault.WorkFault.TheVariants.{Unknown, Memory}
use Rattle.velo_workload.specs.declared.statement.Statement.{Statement}
use Rattle.velo_workload.specs.declared.statement.Statement.TheVariants as of_statement
use Rattle.velo_workload.specs.Words.{Word, is_name}
use Rattle.velo_workload.specs.Phrase.{phrases, Spoken, Read, Write, Set, Add, Acquire, Release, Share, Unshare, Begin, End, Fork, Join, Repeat, Done, Phrase, Thread, Body}
use Rattle.velo_workload.specs.Outline.{Names, names_in, known, first_fault, first_of_two}

-- the number of a name, where it is among the names
abbrev pub number_of : List Word → Word → Option ℕ
number_of list name = position (bytes_eq name) list

-- the statement of the program, unless it uses a name that the text does not declare
abbrev pub statement_of : Names → Spoken → Option Statement
statement_of names (Read x) = option_map (λ i. of_statement.Read (record { 0 = i })) (number_of names.variables x)
statement_of names (Write x) = option_map (λ i. of_statement.Write (record { 0 = i })) (number_of names.variables x)
statement_of names (Set n) = Some (of_statement.Set n)
statement_of names (Add n) = Some (of_statement.Add n)
statement_of names (Acquire m) = option_map (λ i. of_statement.Acquire (record { 0 = i })) (number_of names.locks m)
statement_of names (Release m) = option_map (λ i. of_statement.Release (record { 0 = i })) (number_of names.locks m)
statement_of names (Share m) = option_map (λ i. of_statement.Share (record { 0 = i })) (number_of names.locks m)
statement_of names (Unshare m) = option_map (λ i. of_statement.Unshare (record { 0 = i })) (number_of names.locks m)
statement_of names (Begin l) = option_map (λ i. of_statement.Begin (record { 0 = i })) (number_of names.labels l)
statement_of names End = Some of_statement.End
statement_of names (Fork t) = option_map (λ i. of_statement.Fork (record { 0 = i })) (number_of names.threads t)
statement_of names (Join t) = option_map (λ i. of_statement.Join (record { 0 = i })) (number_of names.threads t)
statement_of names (Repeat n) = Some (of_statement.Repeat n)
statement_of names Done = Some of_statement.Done

-- ---- undeclared names

-- a line uses a name that the text does not declare
abbrev pub unknown_in : Names → Phrase → ℕ → Option WorkFault
unknown_in names (Body s) n = if is_some (statement_of names s) then None else Some (Unknown n)
unknown_in names p n = None

-- the first such line of those after line n
abbrev pub first_unknown : Names → ℕ → List Phrase → Option WorkFault
first_unknown names n [] = None
first_unknown names n (p ∷ ps) = first_of_two (unknown_in names p (n + 1)) (first_unknown names (n + 1) ps)

-- ---- bodies

-- the statements up to the next thread's line
abbrev pub body_from : Names → List Phrase → List Statement
body_from names [] = []
body_from names (Thread name ∷ ps) = []
body_from names (Body s ∷ ps) = option_to_list (statement_of names s) ++ body_from names ps
body_from names (p ∷ ps) = body_from names ps

-- the body of each thread
abbrev pub bodies : Names → List Phrase → List (List Statement)
bodies names [] = []
bodies names (Thread name ∷ ps) = body_from names ps ∷ bodies names ps
bodies names (p ∷ ps) = bodies names ps

pub record Program : Type 0 where
  pub bounds : Bounds
  pub thread_names : List Word
  pub variable_names : List Word
  pub lock_names : List Word
  pub label_names : List Word
  pub bodies : List (List Statement)

-- the program of these names and bodies
abbrev pub program_of : Names → List (List Statement) → Program
program_of names found = record {
  bounds = record { threads = length names.threads; variables = length names.variables; locks = length names.locks };
  thread_names = names.threads;
  variable_names = names.variables;
  lock_names = names.locks;
  label_names = names.labels;
  bodies = found;
}

abbrev pub program : List Phrase → Program
program ps = let names = names_in (known ps) in program_of names (bodies names ps)

-- the first fault of the lines, in two passes
abbrev pub fault_in : List Phrase → Option WorkFault
fault_in ps = first_of_two (first_fault ps) (first_unknown (names_in (known ps)) 0 ps)

abbrev pub unless_fault : Option WorkFault → Program → Result Program WorkFault
unless_fault None w = Ok w
unless_fault (Some f) w = Err f

-- what a text means: a program, or its first fault
unfoldable pub meaning_of : List ℕ → Result Program WorkFault
meaning_of text = unless_fault (fault_in (phrases text)) (program (phrases text))

-- what a parser returns: what the text means, unless an allocation failed
abbrev pub ParsesAs : Result Program WorkFault → Result Program WorkFault → Type 0
ParsesAs meaning (Ok w) = meaning ≡ Ok w
ParsesAs meaning (Err Memory) = GrowthRefused
ParsesAs meaning (Err f) = meaning ≡ Err f

-- ---- its names

abbrev pub AreWellNamed : List Word → Type 0
AreWellNamed names = AllByRecursion (λ name. IsTrue (is_name name)) names

-- each name is one of the language, and there are no more of a kind than may be
pub record IsWellNamed (w : Program) : Type 0 where
  pub threads : AreWellNamed w.thread_names
  pub variables : AreWellNamed w.variable_names
  pub locks : AreWellNamed w.lock_names
  pub labels : AreWellNamed w.label_names
  pub few_threads : length w.thread_names ≤ MAX_THREADS
  pub few_variables : length w.variable_names ≤ MAX_VARIABLES
  pub few_locks : length w.lock_names ≤ MAX_LOCKS
  pub few_labels : length w.label_names ≤ MAX_STATEMENTS
