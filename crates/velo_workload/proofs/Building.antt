-- How far the two passes have come with the lines and the bodies.
use Rattle.std.specs.Prelude.{ℕ, ◌≡◌, ◌<◌, List, [], ◌∷◌, ◌++◌, length, map, drop, Option, None, ⊤}
use Rattle.std.specs.Option.{option_to_list}
use Rattle.velo_workload.specs.declared.statement.Statement.{Statement}
use Rattle.velo_workload.specs.declared.outline.Outline.{Outline}
use Rattle.velo_workload.specs.Phrase.{Phrase, Thread, Body, phrase_of, phrases}
use Rattle.velo_workload.specs.Outline.{AreFew, Names, fault_from, first_fault, first_of_two}
use Rattle.velo_workload.specs.Nesting.{kept}
use Rattle.velo_workload.specs.Known.{LineState, kept_of, known_by, lines_left, whole}
use Rattle.velo_workload.specs.Program.{statement_of, first_unknown, body_from, bodies}
use Rattle.velo_workload.specs.declared.draft.Later.{Later}
use Rattle.velo_workload.specs.declared.draft.Draft.{Draft}
use Rattle.velo_workload.specs.Sketch.{Put, Sketches, put_of, sketch_of, drafted, unknown_later, completed, unknown_in_sketches, bodies_completed}

-- The bodies that are whole, and the one that is read, by all names.
pub record Built : Type 0 where
  pub whole : List (List Statement)
  pub current : List Statement

abbrev pub built_by : Names → Sketches → Built
built_by names b = record { whole = bodies_completed names b.whole; current = completed names b.current.statements b.current.later }

-- with one more line
abbrev pub with_line_built : Names → Built → Phrase → Built
with_line_built names b (Thread name) = record { whole = b.whole ++ b.current ∷ []; current = [] }
with_line_built names b (Body s) = record { whole = b.whole; current = b.current ++ option_to_list (statement_of names s) }
with_line_built names b p = b

-- with all lines that are left
abbrev pub bodies_with : Names → Built → List Phrase → List (List Statement)
bodies_with names b ps = b.whole ++ (b.current ++ body_from names ps) ∷ bodies names ps

-- each statement that is not known has its place among so many
abbrev pub AreBelow : ℕ → List Put → Type 0
AreBelow n [] = ⊤
AreBelow n (l ∷ ls) = (l.place < n) × AreBelow n ls

-- n of these lines are read, and those of rest are left
pub record IsSketchedUpTo (names : Names) (ps rest : List Phrase) (n : ℕ) (b : Sketches) : Type 0 where
  pub within : AreBelow (length b.current.statements) b.current.later
  pub fault : first_of_two (unknown_in_sketches names (drafted b)) (first_unknown names n rest) ≡ first_unknown names 0 ps
  pub all : unknown_in_sketches names (drafted b) ≡ None → bodies_with names (built_by names b) rest ≡ body_from names ps ∷ bodies names ps

-- ---- how far the first pass has come

-- what is kept of a state whose costs go beyond what a body may cost
abbrev pub up_to_most : LineState → LineState
up_to_most k = record k { body = kept k.body }

-- the lines that are left, if any
abbrev pub phrases_left : Option (List ℕ) → List Phrase
phrases_left rest = map phrase_of (lines_left rest)

-- n lines of the text were read without a fault, and these are left
pub record IsReadUpTo (text : List ℕ) (rest : Option (List ℕ)) (o : Outline) (n : ℕ) : Type 0 where
  pub before : List Phrase
  pub is_kept : kept_of o ≡ up_to_most (whole before)
  pub number : n ≡ length before
  pub few : AreFew (known_by (whole before))
  pub all : before ++ phrases_left rest ≡ phrases text
  pub fault : fault_from before (phrases_left rest) ≡ first_fault (phrases text)

-- ---- how far the second pass has come

-- the first i of these statements are known and in their places
pub record IsCompletedUpTo (names : Names) (ls : List Later) (old : List Statement) (i : ℕ) (ss : List Statement) : Type 0 where
  pub fault : unknown_later names (drop i (map put_of ls)) ≡ unknown_later names (map put_of ls)
  pub all : completed names ss (drop i (map put_of ls)) ≡ completed names old (map put_of ls)

-- the first i of these drafts are bodies now
pub record AreCompletedUpTo (names : Names) (ds : List Draft) (i : ℕ) (found : List (List Statement)) : Type 0 where
  pub fault : unknown_in_sketches names (drop i (map sketch_of ds)) ≡ unknown_in_sketches names (map sketch_of ds)
  pub all : found ++ bodies_completed names (drop i (map sketch_of ds)) ≡ bodies_completed names (map sketch_of ds)
