use Rattle.std.proofs.Common.{◌∙◌, sym, true≢false}
use Rattle.velo_names.proofs.OnPatterns.{tail_met}
use Rattle.velo_names.proofs.pattern.meet_tail.Goals as goal
use Rattle.velo_names.proofs.pattern.meet_tail.Goals.{in-Apart, in_default}

pub returns-then-not-matches-clause-value : goal.returns-then-not-matches-clause-value
returns-then-not-matches-clause-value c =
    elim c.match-matches.branch [
      | in-Apart w ↦ absurd (true≢false (sym w.matches-is ∙ c.if-not-matches.true))
      | in_default w ↦ tail_met c.args.pattern.now c.loop-met.tail.now c.meet-met.result c.meet-met.ensures w.in_default.not-Apart ∙ c.loop-met.invariant
    ]
