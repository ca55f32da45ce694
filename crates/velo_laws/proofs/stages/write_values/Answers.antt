use Rattle.std.proofs.Common.{◌≡◌, ℕ, subst, arith}
use Rattle.velo_events.specs.declared.config.Bounds.{Bounds}
use Rattle.velo_events.specs.WellFormed.{IsWellFormed}
use Rattle.velo_laws.specs.Stages.{HasWritten}
use Rattle.velo_laws.proofs.OnPrologues.{written-start}
use Rattle.velo_laws.proofs.stages.write_values.Goals as goal

pub loop-variable-init : goal.loop-variable-init
loop-variable-init c = record {
  so_far = λ log stands start.
      let well = subst (λ (b : Bounds). IsWellFormed b log) c.requires stands.well_formed in
      written-start c.args.bounds log well c.args.made.now.events start;
}

pub loop-variable-preserved : goal.loop-variable-preserved
loop-variable-preserved c = record { so_far = λ log stands start. c.in_ok-write_value.ensures log stands (c.loop-variable.invariant.so_far log stands start) }

pub returns : goal.returns
returns c = λ log stands start.
    let at : c.loop-variable.variable ≡ c.args.bounds.variables = omega (arith, c.loop-variable.auto.variable-end, c.loop-variable-test.false) in
    subst (λ (n : ℕ). HasWritten c.args.bounds log c.loop-variable.made.events n) at (c.loop-variable.invariant.so_far log stands start)
