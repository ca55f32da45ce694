use Rattle.std.proofs.Common.{◌∙◌, ap, not, sym}
use Rattle.std.proofs.lemmas.Bool.{false≢true}
use Rattle.velo_filter.specs.Tables.{left_of}
use Rattle.velo_filter.proofs.OnKept.{HasCycle-rest}
use Rattle.velo_explore.proofs.judging.outcome_left.Goals as goal

pub returns-then-not-whole-clause-alarm : goal.returns-then-not-whole-clause-alarm
returns-then-not-whole-clause-alarm c = (
  λ alarm. absurd (false≢true (sym (ap not alarm) ∙ c.if-not-whole.true)),
  λ cycle. absurd (false≢true (sym (ap not (c.of-whole.ensures.alarm.1 (HasCycle-rest (left_of c.args.left.now) c.args.closed.now.log cycle))) ∙ c.if-not-whole.true)),
)
