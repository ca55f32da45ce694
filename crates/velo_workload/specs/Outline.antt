-- What is known of the lines before one, and the first fault of a text, but for undeclared names.
use Rattle.std.specs.Prelude.{ℕ, ◌≡◌, ◌≤◌, ◌+◌, ◌-◌, ◌*◌, ◌==◌, Bool, nat_lt, nat_le, List, [], ◌∷◌, ◌++◌, length, take, slice_get, Option, Some, None, Result, Ok, Err, if◌then◌else◌}
use Rattle.std.specs.List.{flat_map, list_any}
use Rattle.std.specs.Option.{option_map_or}
use Rattle.std.specs.Str.{bytes_eq}
use Rattle.indexmap.specs.IndexSet.{insert_all}
use Rattle.velo_events.specs.Refusals.{GrowthRefused}
use Rattle.velo_events.specs.declared.limits.TheConstants.{MAX_THREADS, MAX_LOCKS}
use Rattle.velo_workload.specs.declared.limits.TheConstants.{MAX_VARIABLES, MAX_OPEN_REPEATS, MAX_STATEMENTS, MAX_COST}
use Rattle.velo_workload.specs.declared.fault.WorkFault.{WorkFault}
use Rattle.velo_workload.specs.declared.fault.WorkFault.TheVariants.{BadLine, Twice, Unmatched, TooMany, Memory}
use Rattle.velo_workload.specs.Words.{Word}
use Rattle.velo_workload.specs.Phrase.{Spoken, Repeat, Done, Begin, Phrase, Blank, Bad, BadThread, Variable, Lock, Thread, Body}

-- ---- what lines declare and say

abbrev pub variable_in : Phrase → List Word
variable_in (Variable name) = name ∷ []
variable_in p = []

abbrev pub lock_in : Phrase → List Word
lock_in (Lock name) = name ∷ []
lock_in p = []

abbrev pub thread_in : Phrase → List Word
thread_in (Thread name) = name ∷ []
thread_in p = []

abbrev pub statement_in : Phrase → List Spoken
statement_in (Body s) = s ∷ []
statement_in p = []

abbrev pub label_of : Spoken → List Word
label_of (Begin name) = name ∷ []
label_of s = []

abbrev pub label_in : Phrase → List Word
label_in (Body s) = label_of s
label_in p = []

abbrev pub variables : List Phrase → List Word
variables ps = flat_map variable_in ps

abbrev pub locks : List Phrase → List Word
locks ps = flat_map lock_in ps

abbrev pub threads : List Phrase → List Word
threads ps = flat_map thread_in ps

abbrev pub statements : List Phrase → List Spoken
statements ps = flat_map statement_in ps

-- each label once, in the order of their first begins
abbrev pub labels : List Phrase → List Word
labels ps = insert_all bytes_eq [] (flat_map label_in ps)

-- ---- what a body costs

-- from a repeat on, where these are the costs after it, as below
abbrev pub repeated : ℕ → List ℕ → List ℕ
repeated times [] = (1 + times) ∷ []
repeated times (body ∷ []) = (1 + times * (1 + body)) ∷ []
repeated times (body ∷ behind ∷ others) = (1 + times * (1 + body) + behind) ∷ others

abbrev pub one_statement : List ℕ → List ℕ
one_statement [] = 1 ∷ []
one_statement (cost ∷ others) = (1 + cost) ∷ others

-- The cost of the statements up to the first `done` whose `repeat` is not among them, of those from
-- there up to the next such one, and so on. A statement costs 1; a repeat costs 1, and as many
-- times as it is done 1 and its body.
abbrev pub costs : List Spoken → List ℕ
costs [] = 0 ∷ []
costs (Repeat times ∷ ss) = repeated times (costs ss)
costs (Done ∷ ss) = 0 ∷ costs ss
costs (s ∷ ss) = one_statement (costs ss)

abbrev pub total : List ℕ → ℕ
total [] = 0
total (cost ∷ others) = cost + total others

-- where each `done` has its `repeat` there is one cost
abbrev pub cost_of : List Spoken → ℕ
cost_of ss = total (costs ss)

-- ---- the body that the lines are in: its thread's line, the lines of its open repeats, outermost first, and its statements

pub record Reading : Type 0 where
  pub thread_line : ℕ
  pub open_repeats : List ℕ
  pub said : List Spoken

abbrev pub new_body : ℕ → Reading
new_body n = record { thread_line = n; open_repeats = []; said = [] }

abbrev pub opened : List ℕ → ℕ → Spoken → List ℕ
opened repeats n (Repeat times) = repeats ++ n ∷ []
opened repeats n Done = take (length repeats - 1) repeats
opened repeats n s = repeats

abbrev pub line_read : Reading → ℕ → Phrase → Reading
line_read b n (Thread name) = new_body n
line_read b n (Body s) = record { thread_line = b.thread_line; open_repeats = opened b.open_repeats n s; said = b.said ++ s ∷ [] }
line_read b n p = b

-- after n lines and these
abbrev pub read_from : Reading → ℕ → List Phrase → Reading
read_from b n [] = b
read_from b n (p ∷ ps) = read_from (line_read b (n + 1) p) (n + 1) ps

abbrev pub reading : List Phrase → Reading
reading ps = read_from (new_body 0) 0 ps

-- a body ends here
abbrev pub end_fault : Reading → Option WorkFault
end_fault b = option_map_or (λ n. Some (Unmatched n)) (slice_get b.open_repeats (length b.open_repeats - 1)) (if nat_lt MAX_COST (cost_of b.said) then Some (TooMany b.thread_line) else None)

-- ---- faults of a line, by what is known of the lines before it

pub record Known : Type 0 where
  pub variables : List Word
  pub locks : List Word
  pub threads : List Word
  pub labels : List Word
  pub statements : ℕ
  -- how many repeats are open
  pub depth : ℕ
  -- the fault of the body, if it ends here
  pub body_end : Option WorkFault

abbrev pub known : List Phrase → Known
known ps = record { variables = variables ps; locks = locks ps; threads = threads ps; labels = labels ps; statements = length (statements ps); depth = length (reading ps).open_repeats; body_end = end_fault (reading ps) }

-- the names that a text declares, and its labels
pub record Names : Type 0 where
  pub variables : List Word
  pub locks : List Word
  pub threads : List Word
  pub labels : List Word

abbrev pub names_in : Known → Names
names_in k = record { variables = k.variables; locks = k.locks; threads = k.threads; labels = k.labels }

-- the first of two, if it is there
abbrev pub first_of_two : Option WorkFault → Option WorkFault → Option WorkFault
first_of_two (Some f) other = Some f
first_of_two None other = other

abbrev pub is_among : List Word → Word → Bool
is_among names name = list_any (bytes_eq name) names

-- a name is declared, where there may be at most this many
abbrev pub declared_fault : List Word → ℕ → Word → ℕ → Option WorkFault
declared_fault names most name n =
    if is_among names name then Some (Twice n)
    else (if nat_le most (length names) then Some (TooMany n) else None)

abbrev pub full_fault : ℕ → ℕ → Option WorkFault
full_fault count n = if nat_le MAX_STATEMENTS count then Some (TooMany n) else None

abbrev pub statement_fault : Known → Spoken → ℕ → Option WorkFault
statement_fault k Done n = if k.depth == 0 then Some (Unmatched n) else full_fault k.statements n
statement_fault k (Repeat times) n = if nat_le MAX_OPEN_REPEATS (k.depth) then Some (TooMany n) else full_fault k.statements n
statement_fault k s n = full_fault k.statements n

abbrev pub fault_of_line : Known → Phrase → ℕ → Option WorkFault
fault_of_line k Blank n = None
fault_of_line k Bad n = Some (BadLine n)
fault_of_line k BadThread n = first_of_two k.body_end (Some (BadLine n))
fault_of_line k (Variable name) n = if length k.threads == 0 then declared_fault k.variables MAX_VARIABLES name n else Some (BadLine n)
fault_of_line k (Lock name) n = if length k.threads == 0 then declared_fault k.locks MAX_LOCKS name n else Some (BadLine n)
fault_of_line k (Thread name) n = first_of_two k.body_end (declared_fault k.threads MAX_THREADS name n)
fault_of_line k (Body s) n = if length k.threads == 0 then Some (BadLine n) else statement_fault k s n

-- the text ends here
abbrev pub fault_at_end : Known → Option WorkFault
fault_at_end k = first_of_two k.body_end (if length k.threads == 0 then Some (BadLine 0) else None)

-- the first fault in the lines of rest, which come after those of before
abbrev pub fault_from : List Phrase → List Phrase → Option WorkFault
fault_from before [] = fault_at_end (known before)
fault_from before (p ∷ rest) = first_of_two (fault_of_line (known before) p (length before + 1)) (fault_from (before ++ p ∷ []) rest)

-- the first fault but for undeclared names
abbrev pub first_fault : List Phrase → Option WorkFault
first_fault ps = fault_from [] ps

-- ---- results

-- the result is this fault, or none, unless an allocation failed
abbrev pub Judges : {X : Type 0} → Option WorkFault → Result X WorkFault → Type 0
Judges fault (Ok x) = fault ≡ None
Judges fault (Err Memory) = GrowthRefused
Judges fault (Err f) = fault ≡ Some f

-- ---- how many there are where no line has a fault

pub record AreFew (k : Known) : Type 0 where
  pub variables : length k.variables ≤ MAX_VARIABLES
  pub locks : length k.locks ≤ MAX_LOCKS
  pub threads : length k.threads ≤ MAX_THREADS
  pub labels : length k.labels ≤ k.statements
  pub statements : k.statements ≤ MAX_STATEMENTS
