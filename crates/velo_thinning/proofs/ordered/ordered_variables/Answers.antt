use Rattle.std.proofs.Common.{ap, ◌≡◌, length, sym, subst, arith}
use Rattle.std.proofs.lemmas.Bool.{true_from_ne_false}
use Rattle.velo_events.specs.declared.config.Bounds.{Bounds}
use Rattle.velo_events.specs.WellFormed.{IsWellFormed}
use Rattle.velo_laws.specs.Ordered.{only, IsOrderedWithin}
use Rattle.velo_filter.specs.Tables.{marked}
use Rattle.velo_thinning.specs.Races.{no_lock, IsFreeOfRaces}
use Rattle.velo_thinning.specs.Sweep.{IsSwept}
use Rattle.velo_thinning.proofs.OnOrdered.{ordered, judged}
use Rattle.velo_thinning.proofs.ordered.ordered_variables.Goals as goal

pub take_in-requires-clause-well : goal.take_in-requires-clause-well
take_in-requires-clause-well c =
    subst (λ b. IsWellFormed b c.as_slice-events.result.now) (sym c.loop-position.invariant.bounds)
    (subst (IsWellFormed c.args.config.now.bounds) (sym c.as_slice-events.ensures) c.requires.well_formed)

pub loop-position-init : goal.loop-position-init
loop-position-init c = record { bounds = c.in_ok-sweep.ensures.bounds; swept = c.in_ok-sweep.ensures.swept c.as_slice-events.result.now }

pub returns-clause-ordered : goal.returns-clause-ordered
returns-clause-ordered c =
    let events = c.as_slice-events.result.now in
    let at : c.loop-position.position ≡ length events = omega (arith, c.loop-position.auto.position-end, c.loop-position-test.false) in
    subst (IsOrderedWithin (only no_lock (marked c.loop-position.sweep.ordered.items))) c.as_slice-events.ensures
    (ordered events c.loop-position.sweep (subst (λ n. IsSwept events n c.loop-position.sweep) at c.loop-position.invariant.swept))

pub returns-clause-free : goal.returns-clause-free
returns-clause-free c x inside free =
    let events = c.as_slice-events.result.now in
    let variables = ap (λ (b : Bounds). b.variables) c.loop-position.invariant.bounds in
    true_from_ne_false _ (λ h. c.loop-position.invariant.swept.racing x (omega (arith, inside, variables)) h (subst (λ log. IsFreeOfRaces log x) (sym c.as_slice-events.ensures) free))

pub returns-clause-judged : goal.returns-clause-judged
returns-clause-judged c =
    judged c.args.config.now.bounds c.args.log.now.events (marked c.loop-position.sweep.ordered.items) c.requires.well_formed (returns-clause-ordered c)
