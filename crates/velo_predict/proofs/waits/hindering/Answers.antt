use Rattle.std.proofs.Common.{◌≡◌, ℕ, ◌+◌, ◌<◌, subst, sym, ◌∙◌, arith}
use Rattle.std.specs.Prelude.{◌↔◌, IsTrue}
use Rattle.velo_events.specs.ThreadSets.{has_thread}
use Rattle.velo_predict.specs.Waits.{hinders}
use Rattle.velo_predict.proofs.OnWaits.{row-with, row-without}
use Rattle.velo_predict.proofs.waits.hindering.Goals.{then-hinders, else-hinders}
use Rattle.velo_predict.proofs.waits.hindering.Goals as goal

pub loop-u-preserved : goal.loop-u-preserved
loop-u-preserved c = elim c.if-hinders.branch [
  | then-hinders w ↦ λ trace stands. subst (λ row. (u : ℕ) → IsTrue (has_thread row u) ↔ ((u < c.loop-u.u + 1) × IsTrue (hinders trace c.args.kind c.args.thread.0 u))) (sym w.row-is)
      (row-with (hinders trace c.args.kind c.args.thread.0) c.loop-u.u c.loop-u.row w.with-row.result (c.loop-u.invariant trace stands) (sym (c.hinders.ensures trace stands) ∙ w.if-hinders.true) w.with-row.ensures.members)
  | else-hinders w ↦ λ trace stands. subst (λ row. (u : ℕ) → IsTrue (has_thread row u) ↔ ((u < c.loop-u.u + 1) × IsTrue (hinders trace c.args.kind c.args.thread.0 u))) (sym w.row-is)
      (row-without (hinders trace c.args.kind c.args.thread.0) c.loop-u.u c.loop-u.row (c.loop-u.invariant trace stands) (sym (c.hinders.ensures trace stands) ∙ w.if-hinders.false))
]

pub returns : goal.returns
returns c = λ trace stands.
    let all : c.loop-u.u ≡ c.args.bounds.threads = omega (arith, c.loop-u-test.false, c.loop-u.auto.u-end) in
    subst (λ n. (u : ℕ) → IsTrue (has_thread c.loop-u.row u) ↔ ((u < n) × IsTrue (hinders trace c.args.kind c.args.thread.0 u))) all (c.loop-u.invariant trace stands)
