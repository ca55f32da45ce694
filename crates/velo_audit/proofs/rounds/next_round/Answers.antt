use Rattle.std.proofs.Common.{ap, subst, ◌∙◌, map}
use Rattle.velo_traces.specs.declared.block.Block.{Block}
use Rattle.velo_audit.specs.Audit.{RoundTells}
use Rattle.velo_filter.specs.Left.{with_labels}
use Rattle.velo_filter.specs.Tables.{left_of}
use Rattle.velo_audit.proofs.OnAnswers.{labels-told}
use Rattle.velo_audit.proofs.rounds.next_round.Goals as goal

pub returns-in-Ok-clause-left : goal.returns-in-Ok-clause-left
returns-in-Ok-clause-left c =
    let log = c.args.log.now.events in
    let left = left_of c.args.left.now in
    let tells = subst (RoundTells c.args.with_witness log left) c.in-Some.is c.in_ok-round.ensures.tells in
    c.in-Ok.ensures.left ∙ ap (with_labels left) (ap (map (λ (b : Block). b.label.0)) c.deref.ensures.value ∙ labels-told log c.in-Some.told tells.1)

pub returns-in-Ok-clause-cut : goal.returns-in-Ok-clause-cut
returns-in-Ok-clause-cut c = c.in-Ok.ensures.cut c.args.log.now.events c.in_ok-round.ensures.cut
