-- The bodies as the first pass puts them down: the statements that are known where their lines are
-- read, and the others. Private contracts cite these words.
use Rattle.std.specs.Prelude.{ℕ, ◌≡◌, List, [], ◌∷◌, ◌++◌, length, map, slice_set, Option, Some, None}
use Rattle.velo_workload.specs.declared.fault.WorkFault.{WorkFault}
use Rattle.velo_workload.specs.declared.statement.Statement.{Statement}
use Rattle.velo_workload.specs.declared.statement.Statement.TheVariants as of_statement
use Rattle.velo_workload.specs.declared.draft.Later.{Later}
use Rattle.velo_workload.specs.declared.draft.Draft.{Draft}
use Rattle.velo_workload.specs.declared.bodies.Bodies.{Bodies}
use Rattle.velo_workload.specs.Phrase.{spoken, Spoken, Phrase, Thread, Body}
use Rattle.velo_workload.specs.Outline.{Names, first_of_two}
use Rattle.velo_workload.specs.Program.{statement_of, unknown_in, first_unknown, body_from, bodies}

-- a statement with a name that the lines up to its own do not declare: its line, and its place in
-- its body
pub record Put : Type 0 where
  pub spoken : Spoken
  pub line : ℕ
  pub place : ℕ

-- a body, with any statement in place of those that are not known
pub record Sketch : Type 0 where
  pub statements : List Statement
  pub later : List Put

abbrev pub no_sketch : Sketch
no_sketch = record { statements = []; later = [] }

abbrev pub put_of : Later → Put
put_of l = record { spoken = spoken l.said; line = l.line; place = l.place }

abbrev pub sketch_of : Draft → Sketch
sketch_of d = record { statements = d.statements.items; later = map put_of d.later.items }

-- with one more statement of this line, which is known or not
abbrev pub with_known : Sketch → Spoken → ℕ → Option Statement → Sketch
with_known d s n (Some x) = record { statements = d.statements ++ x ∷ []; later = d.later }
with_known d s n None = record { statements = d.statements ++ of_statement.Done ∷ []; later = d.later ++ record { spoken = s; line = n; place = length d.statements } ∷ [] }

-- by the names that are declared so far
abbrev pub with_statement : Names → Sketch → Spoken → ℕ → Sketch
with_statement names d s n = with_known d s n (statement_of names s)

-- the bodies that are whole, and the one that is read; the first is what comes before the first
-- thread
pub record Sketches : Type 0 where
  pub whole : List Sketch
  pub current : Sketch

abbrev pub sketches_of : Bodies → Sketches
sketches_of b = record { whole = map sketch_of b.whole.items; current = sketch_of b.current }

abbrev pub drafted : Sketches → List Sketch
drafted b = b.whole ++ b.current ∷ []

-- with one more line, which has this number
abbrev pub with_phrase : Names → Sketches → Phrase → ℕ → Sketches
with_phrase names b (Thread name) n = record { whole = drafted b; current = no_sketch }
with_phrase names b (Body s) n = record { whole = b.whole; current = with_statement names b.current s n }
with_phrase names b p n = b

-- ---- what they are by all names of the text

-- the first that is still not known
abbrev pub unknown_later : Names → List Put → Option WorkFault
unknown_later names [] = None
unknown_later names (l ∷ ls) = first_of_two (unknown_in names (Body l.spoken) l.line) (unknown_later names ls)

abbrev pub put_at : List Statement → ℕ → Option Statement → List Statement
put_at ss i (Some s) = slice_set ss i s
put_at ss i None = ss

-- each in its place
abbrev pub completed : Names → List Statement → List Put → List Statement
completed names ss [] = ss
completed names ss (l ∷ ls) = completed names (put_at ss l.place (statement_of names l.spoken)) ls

abbrev pub unknown_in_sketches : Names → List Sketch → Option WorkFault
unknown_in_sketches names [] = None
unknown_in_sketches names (d ∷ ds) = first_of_two (unknown_later names d.later) (unknown_in_sketches names ds)

abbrev pub bodies_completed : Names → List Sketch → List (List Statement)
bodies_completed names ds = map (λ d. completed names d.statements d.later) ds

-- they have what the second pass needs of these lines
pub record AreSketches (names : Names) (ps : List Phrase) (b : Sketches) : Type 0 where
  pub fault : unknown_in_sketches names (drafted b) ≡ first_unknown names 0 ps
  pub bodies : unknown_in_sketches names (drafted b) ≡ None → bodies_completed names (drafted b) ≡ body_from names ps ∷ bodies names ps
