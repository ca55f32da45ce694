use Rattle.std.proofs.Common.{sym, ◌∙◌, arith}
use Rattle.std.specs.Prelude.{IsTrue}
use Rattle.std.proofs.lemmas.Bool.{false≢true}
use Rattle.std.proofs.lemmas.List.{with_items_is}
use Rattle.velo_thinning.specs.Sweep.{KnowsWrite, KnowsReads}
use Rattle.velo_thinning.proofs.OnSwept.{judged-as}
use Rattle.velo_thinning.proofs.sweep.Sweep.write.Goals.{then-knows_write, else-knows_write}
use Rattle.velo_thinning.proofs.sweep.Sweep.write.Goals as goal

pub returns-clause-ordered : goal.returns-clause-ordered
returns-clause-ordered c =
    let now = c.args.self.now in
    let x = c.args.variable in
    let t = c.args.thread.0 in
    let back = with_items_is now.ordered c.judge.new.ordered (omega (arith, c.judge.auto.ordered, c.deref_mut.ensures.len)) in
    let knows : IsTrue c.if-knows_write.known → KnowsWrite now t x × KnowsReads now t x = elim c.if-knows_write.branch [
      | then-knows_write w ↦ λ is. (c.knows_write.ensures.0 w.if-knows_write.true, w.knows_reads-known.ensures.0 (sym w.known-is ∙ is))
      | else-knows_write w ↦ λ is. absurd (false≢true (sym w.if-knows_write.false ∙ (sym w.known-is ∙ is)))
    ] in
    let known : KnowsWrite now t x × KnowsReads now t x → IsTrue c.if-knows_write.known = elim c.if-knows_write.branch [
      | then-knows_write w ↦ λ both. w.known-is ∙ w.knows_reads-known.ensures.1 both.1
      | else-knows_write w ↦ λ both. absurd (false≢true (sym w.if-knows_write.false ∙ c.knows_write.ensures.1 both.0))
    ] in
    judged-as now.ordered.items c.deref_mut.result.now c.judge.new.ordered _ x (IsTrue c.if-knows_write.known) (KnowsWrite now t x × KnowsReads now t x) c.deref_mut.ensures.value back knows known c.judge.ensures
