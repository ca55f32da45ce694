-- The statements of a body, one after another, with its repeats written out.
use Rattle.std.specs.Prelude.{ℕ, zero, suc, List, [], ◌∷◌, ◌++◌}
use Rattle.velo_workload.specs.declared.statement.Statement.{Statement}
use Rattle.velo_workload.specs.declared.statement.Statement.TheVariants.{Repeat, Done}

-- the statements, n times
unfoldable pub repeated : ℕ → List Statement → List Statement
repeated zero statements = []
repeated (suc n) statements = statements ++ repeated n statements

-- of some lists, the first and the others
abbrev pub first : List (List Statement) → List Statement
first [] = []
first (level ∷ levels) = level

abbrev pub others : List (List Statement) → List (List Statement)
others [] = []
others (level ∷ levels) = levels

-- a statement before the first
abbrev pub with_statement : Statement → List (List Statement) → List (List Statement)
with_statement statement levels = (statement ∷ first levels) ∷ others levels

-- a repeat of the first before the second
abbrev pub with_repeat : ℕ → List (List Statement) → List (List Statement)
with_repeat n levels = (Repeat n ∷ repeated n (first levels ++ Done ∷ []) ++ first (others levels)) ∷ others (others levels)

-- What is to be done up to the end of the repeat that is open before the statements; then, after
-- that end, up to the end of the repeat around it; and so on. Each repeat is there as its own
-- statement, and after it, n times, what is repeated and its `Done`
unfoldable pub levels : List Statement → List (List Statement)
levels [] = []
levels (Repeat n ∷ rest) = with_repeat n (levels rest)
levels (Done ∷ rest) = [] ∷ levels rest
levels (statement ∷ rest) = with_statement statement (levels rest)

-- all statements of a body, its repeats written out
unfoldable pub walk_of : List Statement → List Statement
walk_of body = first (levels body)
