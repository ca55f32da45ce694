use Rattle.std.proofs.Common.{◌≡◌, refl, sym, ap, ◌∙◌, subst, arith, inl, inr}
use Rattle.std.specs.Prelude.{Some}
use Rattle.velo_traces.specs.declared.judge.Flaw.TheVariants as flaw
use Rattle.velo_traces.specs.Flaws.{flaw_of}
use Rattle.velo_world.proofs.OnLogReplays.{flaw-by}
use Rattle.velo_world.proofs.log_replay.judge.Goals as goal

pub returns-in-Some-Refused-clause-fault : goal.returns-in-Some-Refused-clause-fault
returns-in-Some-Refused-clause-fault c = λ trace stands here. (
  here,
  inl (subst (λ b. flaw_of b trace c.args.event.now ≡ Some (flaw.Refused c.in-Some-Refused.refusal)) c.requires (sym (c.flaw_in.ensures trace stands) ∙ (c.in-Some-Refused.is ∙ ap Some c.in-Some-Refused.field-0-is))),
)

pub returns-in-Some-WrongValue-clause-fault : goal.returns-in-Some-WrongValue-clause-fault
returns-in-Some-WrongValue-clause-fault c = λ trace stands here. (
  here,
  subst (λ b. flaw_of b trace c.args.event.now ≡ Some flaw.WrongValue) c.requires (sym (c.flaw_in.ensures trace stands) ∙ (c.in-Some-WrongValue.is ∙ ap Some c.in-Some-WrongValue.field-0-is)),
)

pub returns-then-position-config-clause-fault : goal.returns-then-position-config-clause-fault
returns-then-position-config-clause-fault c = λ trace stands here. (
  here,
  inr (
    flaw-by _ _ trace c.args.event.now c.requires (sym (c.flaw_in.ensures trace stands) ∙ c.in-None.is),
    inl (refl, (let full = c.if-position-config.true in omega (arith, here, full))),
  ),
)

pub returns-clause-flawless : goal.returns-clause-flawless
returns-clause-flawless c = λ trace stands. sym (c.flaw_in.ensures trace stands) ∙ c.in-None.is
