-- The bodies of a workload.
use Rattle.std.proofs.Common.{◌≡◌, ℕ, List, [], Some, refl}
use Rattle.std.specs.Prelude.{slice_get}
use Rattle.velo_workload.specs.declared.statement.Statement.{Statement}
use Rattle.velo_workload.specs.Bodies.{AreBodies, IsBody, is_nested}

pub body_there : (bodies : List (List Statement)) (t : ℕ) (body : List Statement) → AreBodies bodies → slice_get bodies t ≡ Some body → IsBody body
body_there bodies t body are here = are.each t body here

pub body_none : IsBody []
unfolding is_nested
body_none = record { nested = refl }
