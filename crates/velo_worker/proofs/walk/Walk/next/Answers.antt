use Rattle.std.proofs.Common.{◌∙◌, ap}
use Rattle.std.specs.Prelude.{slice_get}
use Rattle.velo_worker.proofs.OnWalks.{left_at-first}
use Rattle.velo_worker.proofs.walk.Walk.next.Goals as goal

pub returns : goal.returns
returns c =
    c.statement_at.ensures ∙ ap (slice_get c.self.inside.body.now) c.position.ensures
    ∙ left_at-first c.self.inside.body.now c.self.inside.ends.items c.self.inside.cursor c.self.invariant
    ∙ ap (λ xs. slice_get xs 0) c.self.view_is
