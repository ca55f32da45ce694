use Rattle.std.proofs.Common.{refl, sym, ◌∙◌}
use Rattle.velo_world.proofs.OnLogReplays.{known_names}
use Rattle.velo_watch.proofs.summary.Whole.flaw.Goals as goal

pub returns-then-has_its_value : goal.returns-then-has_its_value
returns-then-has_its_value c = λ log is.
    let none = sym (c.refusal.ensures log is.heap) ∙ c.in-None.is in
    let right = sym (c.has_its_value.ensures log is.heap (known_names _ log c.args.event.now is.heap.well_formed none)) ∙ c.if-has_its_value.true in
    rw (none, right) refl

pub returns-else-has_its_value : goal.returns-else-has_its_value
returns-else-has_its_value c = λ log is.
    let none = sym (c.refusal.ensures log is.heap) ∙ c.in-None.is in
    let wrong = sym (c.has_its_value.ensures log is.heap (known_names _ log c.args.event.now is.heap.well_formed none)) ∙ c.if-has_its_value.false in
    rw (none, wrong) refl
