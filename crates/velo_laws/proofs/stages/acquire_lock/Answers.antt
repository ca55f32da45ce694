use Rattle.std.proofs.Common.{◌≡◌, ◌+◌, List, Some, refl, sym, subst}
use Rattle.velo_events.specs.declared.event.Event.{Event}
use Rattle.velo_events.specs.declared.config.Bounds.{Bounds}
use Rattle.velo_events.specs.WellFormed.{IsWellFormed}
use Rattle.velo_events.specs.Heap.{holder_in}
use Rattle.velo_events.proofs.OnResults.{OnOk-weaker}
use Rattle.velo_laws.specs.Stages.{HasAcquired}
use Rattle.velo_laws.proofs.OnPrologues.{acquired-none, acquired-one}
use Rattle.velo_laws.proofs.stages.acquire_lock.Goals as goal

pub returns-in_default : goal.returns-in_default
returns-in_default c = λ log stands at.
    let well = subst (λ (b : Bounds). IsWellFormed b log) c.requires.bounds stands.well_formed in
    acquired-none c.args.bounds log well c.args.made.now.events c.args.lock.0 (sym (c.in_default.ensures log stands)) at

pub returns : goal.returns
returns c = OnOk-weaker c.push.result _ _ c.push.ensures.ok (λ pushed log stands at.
    let well = subst (λ (b : Bounds). IsWellFormed b log) c.requires.bounds stands.well_formed in
    let own : Some c.in-Some.thread.0 ≡ holder_in log c.args.lock.0 = c.in-Some.ensures log stands in
    subst (λ (l : List Event). HasAcquired c.args.bounds log l (c.args.lock.0 + 1)) (sym pushed)
    (acquired-one c.args.bounds log well c.args.made.now.events c.args.lock.0 c.in-Some.thread.0 _ refl c.requires.within (sym own) at))
