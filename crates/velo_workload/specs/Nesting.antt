-- What the first pass keeps of the body that it reads. Private contracts cite these words.
use Rattle.std.specs.Prelude.{ℕ, ◌+◌, ◌-◌, ◌*◌, nat_lt, min, List, [], ◌∷◌, ◌++◌, length, take, map, slice_get, Option, Some, None, if◌then◌else◌}
use Rattle.std.specs.Option.{option_map_or}
use Rattle.velo_workload.specs.declared.limits.TheConstants.{MAX_COST}
use Rattle.velo_workload.specs.declared.fault.WorkFault.{WorkFault}
use Rattle.velo_workload.specs.declared.fault.WorkFault.TheVariants.{Unmatched, TooMany}
use Rattle.velo_workload.specs.declared.nesting.Open.{Open}
use Rattle.velo_workload.specs.declared.nesting.Nesting.{Nesting}
use Rattle.velo_workload.specs.Phrase.{Spoken, Repeat, Done, Phrase, Thread, Body}

-- Its thread's line; its open repeats, outermost first, each with its line and how often it is done
-- itself; how often the next statement is done; and the cost so far.
pub record NestingState : Type 0 where
  pub thread_line : ℕ
  pub open_repeats : List Open
  pub rounds : ℕ
  pub cost : ℕ

abbrev pub new_nesting : ℕ → NestingState
new_nesting n = record { thread_line = n; open_repeats = []; rounds = 1; cost = 0 }

abbrev pub last_open : List Open → Option Open
last_open repeats = slice_get repeats (length repeats - 1)

abbrev pub nesting_after : NestingState → ℕ → Spoken → NestingState
nesting_after b n (Repeat times) =
    record b { open_repeats = b.open_repeats ++ record { line = n; outside = b.rounds } ∷ []; rounds = b.rounds * times; cost = b.cost + (b.rounds + b.rounds * times) }
nesting_after b n Done =
    record b { open_repeats = take (length b.open_repeats - 1) b.open_repeats; rounds = option_map_or (λ o. o.outside) (last_open b.open_repeats) 1 }
nesting_after b n s = record b { cost = b.cost + b.rounds }

abbrev pub nesting_after_line : NestingState → ℕ → Phrase → NestingState
nesting_after_line b n (Thread name) = new_nesting n
nesting_after_line b n (Body s) = nesting_after b n s
nesting_after_line b n p = b

-- after n lines and these
abbrev pub nesting_from : NestingState → ℕ → List Phrase → NestingState
nesting_from b n [] = b
nesting_from b n (p ∷ ps) = nesting_from (nesting_after_line b (n + 1) p) (n + 1) ps

abbrev pub nesting_of_lines : List Phrase → NestingState
nesting_of_lines ps = nesting_from (new_nesting 0) 0 ps

-- the fault of a body that ends here
abbrev pub nesting_fault : NestingState → Option WorkFault
nesting_fault b = option_map_or (λ o. Some (Unmatched o.line)) (last_open b.open_repeats) (if nat_lt MAX_COST b.cost then Some (TooMany b.thread_line) else None)

-- ---- what a reader keeps: its rounds and costs grow no further than one above the most that a body may cost

abbrev pub most_kept : ℕ
most_kept = MAX_COST + 1

abbrev pub kept_open : Open → Open
kept_open o = record { line = o.line; outside = min o.outside most_kept }

abbrev pub kept : NestingState → NestingState
kept b = record { thread_line = b.thread_line; open_repeats = map kept_open b.open_repeats; rounds = min b.rounds most_kept; cost = min b.cost most_kept }

-- what is seen of the body that is read
abbrev pub nesting_of : Nesting → NestingState
nesting_of n = record { thread_line = n.thread_line; open_repeats = n.open.items; rounds = n.rounds; cost = n.cost }
