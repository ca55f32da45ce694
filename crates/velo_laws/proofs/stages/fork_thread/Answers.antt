use Rattle.std.proofs.Common.{◌≡◌, ◌+◌, true, false, List, refl, sym, ap, ◌∙◌, subst}
use Rattle.std.specs.Prelude.{IsFalse}
use Rattle.velo_events.specs.declared.event.Event.{Event}
use Rattle.velo_events.specs.declared.config.Bounds.{Bounds}
use Rattle.velo_events.specs.WellFormed.{IsWellFormed}
use Rattle.velo_events.proofs.OnResults.{OnOk-weaker}
use Rattle.velo_laws.specs.Length.{forks}
use Rattle.velo_laws.specs.Stages.{is_there, HasForked}
use Rattle.velo_laws.proofs.OnPrologues.{forks-is, forks-first, forked-none, forked-one}
use Rattle.velo_laws.proofs.stages.fork_thread.Goals as goal

pub returns-then-thread-eq0 : goal.returns-then-thread-eq0
returns-then-thread-eq0 c = λ log stands at.
    let well = subst (λ (b : Bounds). IsWellFormed b log) c.requires.bounds stands.well_formed in
    let first : IsFalse (forks log c.args.thread.0) = subst (λ t. IsFalse (forks log t)) (sym c.if-thread-eq0.true) (forks-first c.args.bounds log well) in
    forked-none c.args.bounds log well c.args.made.now.events c.args.thread.0 first at

pub returns-then-not-is_there : goal.returns-then-not-is_there
returns-then-not-is_there c = λ log stands at.
    let well = subst (λ (b : Bounds). IsWellFormed b log) c.requires.bounds stands.well_formed in
    let gone : is_there c.status.result ≡ false = cc in
    let none = forks-is c.args.bounds log well c.args.thread.0 c.if-thread-eq0.false ∙ (ap is_there (sym (c.status.ensures log stands)) ∙ gone) in
    forked-none c.args.bounds log well c.args.made.now.events c.args.thread.0 none at

pub returns : goal.returns
returns c = OnOk-weaker c.push.result _ _ c.push.ensures.ok (λ pushed log stands at.
    let well = subst (λ (b : Bounds). IsWellFormed b log) c.requires.bounds stands.well_formed in
    let there : is_there c.status.result ≡ true = cc in
    let some = forks-is c.args.bounds log well c.args.thread.0 c.if-thread-eq0.false ∙ (ap is_there (sym (c.status.ensures log stands)) ∙ there) in
    subst (λ (l : List Event). HasForked c.args.bounds log l (c.args.thread.0 + 1)) (sym pushed)
    (forked-one c.args.bounds log well c.args.made.now.events c.args.thread.0 _ refl c.requires.within some at))
