use Rattle.std.proofs.Common.{refl}
use Rattle.velo_search.proofs.OnTrails.{notes-by, notes-steps}
use Rattle.velo_search.proofs.trail.Trail.note.Goals as goal

pub returns : goal.returns
returns c =
    notes-by c.args.self.now c.args.place c.args.before c.args.after c.told_of-after.result _ refl refl refl c.told_of-after.ensures
    (notes-steps _ _ c.deref.ensures.value _ _ _ _ _ c.in_ok-note_first.ensures)
    (notes-steps _ _ c.deref-2.ensures.value _ _ _ _ _ c.in_ok-note_first-2.ensures)
    (notes-steps _ _ c.deref-3.ensures.value _ _ _ _ _ c.in_ok-note_first-3.ensures)
