use Rattle.std.proofs.Common.{◌≡◌, ◌+◌, true, false, List, refl, sym, ap, ◌∙◌, subst}
use Rattle.velo_events.specs.declared.event.Event.{Event}
use Rattle.velo_events.specs.declared.config.Bounds.{Bounds}
use Rattle.velo_events.specs.WellFormed.{IsWellFormed}
use Rattle.velo_events.proofs.OnResults.{OnOk-weaker}
use Rattle.velo_laws.specs.Stages.{is_exited, HasExited}
use Rattle.velo_laws.proofs.OnPrologues.{exits-is, exited-none, exited-one}
use Rattle.velo_laws.proofs.stages.exit_thread.Goals as goal

pub returns-then-not-is_exited : goal.returns-then-not-is_exited
returns-then-not-is_exited c = λ log stands at.
    let well = subst (λ (b : Bounds). IsWellFormed b log) c.requires.bounds stands.well_formed in
    let stays : is_exited c.status.result ≡ false = cc in
    exited-none c.args.bounds log well c.args.made.now.events c.args.thread.0 (exits-is c.args.bounds log well c.args.thread.0 ∙ (ap is_exited (sym (c.status.ensures log stands)) ∙ stays)) at

pub returns : goal.returns
returns c = OnOk-weaker c.push.result _ _ c.push.ensures.ok (λ pushed log stands at.
    let well = subst (λ (b : Bounds). IsWellFormed b log) c.requires.bounds stands.well_formed in
    let gone : is_exited c.status.result ≡ true = cc in
    subst (λ (l : List Event). HasExited c.args.bounds log l (c.args.thread.0 + 1)) (sym pushed)
    (exited-one c.args.bounds log well c.args.made.now.events c.args.thread.0 _ refl c.requires.within (exits-is c.args.bounds log well c.args.thread.0 ∙ (ap is_exited (sym (c.status.ensures log stands)) ∙ gone)) at))
