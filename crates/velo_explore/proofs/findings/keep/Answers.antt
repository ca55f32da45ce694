use Rattle.std.proofs.Common.{◌∙◌, sym}
use Rattle.velo_explore.proofs.OnShrunk.{keeps-new}
use Rattle.velo_explore.proofs.findings.keep.Goals as goal

pub returns-clause-kept : goal.returns-clause-kept
returns-clause-kept c = λ kept.
    keeps-new c.args.workload.now c.args.config c.args.witness.now c.args.first.now c.in_ok-first.field-0 (sym c.is_some.ensures ∙ c.if-is_some.false) c.in_ok-first.ensures.shows
    (sym c.is_some-2.ensures ∙ kept)
