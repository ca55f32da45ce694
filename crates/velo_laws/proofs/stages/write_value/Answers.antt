use Rattle.std.proofs.Common.{ℕ, ◌+◌, List, sym, ap, ◌∙◌, subst}
use Rattle.velo_events.specs.declared.event.Event.{Event}
use Rattle.velo_events.specs.declared.config.Bounds.{Bounds}
use Rattle.velo_events.specs.WellFormed.{IsWellFormed}
use Rattle.velo_events.specs.declared.event.Kind.TheVariants.{Write}
use Rattle.velo_events.proofs.OnResults.{OnOk-weaker}
use Rattle.velo_laws.specs.Stages.{HasWritten}
use Rattle.velo_laws.proofs.OnPrologues.{written-none, written-one}
use Rattle.velo_laws.proofs.stages.write_value.Goals as goal

pub returns-then-value-eq0 : goal.returns-then-value-eq0
returns-then-value-eq0 c = λ log stands at.
    let well = subst (λ (b : Bounds). IsWellFormed b log) c.requires.bounds stands.well_formed in
    written-none c.args.bounds log well c.args.made.now.events c.args.variable.0 (sym (c.value-value.ensures log stands) ∙ c.if-value-eq0.true) at

pub returns : goal.returns
returns c = OnOk-weaker c.push.result _ _ c.push.ensures.ok (λ pushed log stands at.
    let well = subst (λ (b : Bounds). IsWellFormed b log) c.requires.bounds stands.well_formed in
    let is = c.value-value.ensures log stands in
    subst (λ (l : List Event). HasWritten c.args.bounds log l (c.args.variable.0 + 1)) (sym pushed)
    (written-one c.args.bounds log well c.args.made.now.events c.args.variable.0 _ (ap (λ (v : ℕ). record { thread = record { 0 = 0 }; kind = Write c.args.variable v }) is) c.requires.within
    (λ none. c.if-value-eq0.false (is ∙ none)) at))
