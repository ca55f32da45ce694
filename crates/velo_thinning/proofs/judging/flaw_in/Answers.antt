use Rattle.std.proofs.Common.{refl, sym, ◌∙◌}
use Rattle.velo_thinning.proofs.OnJudging.{known_names}
use Rattle.velo_thinning.proofs.judging.flaw_in.Goals as goal

pub returns-then-has_its_value : goal.returns-then-has_its_value
returns-then-has_its_value c = λ trace stands.
    let none = sym (c.refusal.ensures trace stands) ∙ c.in-None.is in
    let right = sym (c.has_its_value.ensures trace stands (known_names _ trace c.args.event.now.thread c.args.event.now.kind stands.well_formed none)) ∙ c.if-has_its_value.true in
    rw (none, right) refl

pub returns-else-has_its_value : goal.returns-else-has_its_value
returns-else-has_its_value c = λ trace stands.
    let none = sym (c.refusal.ensures trace stands) ∙ c.in-None.is in
    let wrong = sym (c.has_its_value.ensures trace stands (known_names _ trace c.args.event.now.thread c.args.event.now.kind stands.well_formed none)) ∙ c.if-has_its_value.false in
    rw (none, wrong) refl
