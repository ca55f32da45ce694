use Rattle.std.proofs.Common.{◌+◌, sym, ◌∙◌, subst}
use Rattle.velo_audit.specs.Reach.{ReachesUpTo}
use Rattle.velo_audit.proofs.OnReach.{ReachesUpTo-own, ReachesUpTo-other}
use Rattle.velo_audit.proofs.reach.Reach.take_in.Goals as goal

pub returns-then-eq-clause-next : goal.returns-then-eq-clause-next
returns-then-eq-clause-next c = λ log here w.
    subst (ReachesUpTo log c.args.thread.0 (c.args.at + 1) c.record.new.self c.args.self.now.others) (sym c.max-self.ensures)
    (ReachesUpTo-own log c.args.thread.0 c.args.at c.args.event here _ _ _ c.args.self.now.bound c.look_up.result (sym c.eq.ensures ∙ c.if-eq.true) c.record.ensures.recorded c.look_up.ensures w)

pub returns-else-eq-clause-next : goal.returns-else-eq-clause-next
returns-else-eq-clause-next c = λ log here w.
    ReachesUpTo-other log c.args.thread.0 c.args.at c.args.event here _ _ _ _ c.args.self.now.bound c.look_up-number.result (sym c.eq.ensures ∙ c.if-eq.false) c.record-else-eq.ensures.recorded c.record-else-eq-2.ensures.recorded c.look_up-number.ensures w
