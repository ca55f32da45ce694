use Rattle.std.proofs.Common.{◌≡◌, ◌+◌, true, false, List, refl, sym, ◌∙◌, subst}
use Rattle.velo_events.specs.declared.event.Event.{Event}
use Rattle.velo_events.specs.declared.config.Bounds.{Bounds}
use Rattle.velo_events.specs.WellFormed.{IsWellFormed}
use Rattle.velo_events.proofs.OnResults.{OnOk-weaker}
use Rattle.velo_laws.specs.Stages.{HasShared}
use Rattle.velo_laws.proofs.OnPrologues.{shared-none, shared-one}
use Rattle.velo_laws.proofs.stages.share_with.Goals as goal

pub returns-then-not-shares : goal.returns-then-not-shares
returns-then-not-shares c = λ log stands at.
    let well = subst (λ (b : Bounds). IsWellFormed b log) c.requires.bounds stands.well_formed in
    let none : c.shares.result ≡ false = cc in
    shared-none c.args.bounds log well c.args.made.now.events c.args.lock.0 c.args.thread.0 (sym (c.shares.ensures log stands) ∙ none) at

pub returns : goal.returns
returns c = OnOk-weaker c.push.result _ _ c.push.ensures.ok (λ pushed log stands at.
    let well = subst (λ (b : Bounds). IsWellFormed b log) c.requires.bounds stands.well_formed in
    let some : c.shares.result ≡ true = cc in
    subst (λ (l : List Event). HasShared c.args.bounds log l c.args.lock.0 (c.args.thread.0 + 1)) (sym pushed)
    (shared-one c.args.bounds log well c.args.made.now.events c.args.lock.0 c.args.thread.0 _ refl c.requires.known c.requires.within (sym (c.shares.ensures log stands) ∙ some) at))
