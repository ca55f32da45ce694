-- What the fields of a walk keep. Words of what the type keeps.
use Rattle.std.specs.Prelude.{List}
use Rattle.velo_workload.specs.declared.statement.Statement.{Statement}
use Rattle.velo_worker.specs.Cursor.{IsWalk, left_at}
use Rattle.velo_worker.specs.declared.walk.Walk.TheInside.{Inside}

-- the statements that are left
abbrev pub left_of : Inside → List Statement
left_of w = left_at w.body.now w.cursor

abbrev pub IsInside : Inside → Type 0
IsInside w = IsWalk w.body.now w.ends.items w.cursor
