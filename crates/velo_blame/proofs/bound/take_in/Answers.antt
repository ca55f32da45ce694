use Rattle.std.proofs.Common.{sym, ◌∙◌, subst}
use Rattle.velo_blame.specs.Known.{IsEndOf, IsOwnBefore}
use Rattle.velo_blame.proofs.OnKnown.{IsOwnBefore-own, IsOwnBefore-greatest, KnowsUpTo-next}
use Rattle.velo_blame.proofs.bound.take_in.Goals as goal
use Rattle.velo_blame.proofs.bound.take_in.Goals.{then-eq, else-eq}

pub returns-clause-taken : goal.returns-clause-taken
returns-clause-taken c = record {
  each = λ trace here known.
      let n = c.args.at in let t = c.args.thread.0 in let e = c.args.event in
      let end : IsEndOf (IsOwnBefore trace t n) c.if-eq.number = elim c.if-eq.branch [
        | then-eq w ↦ subst (IsEndOf (IsOwnBefore trace t n)) (sym w.number-is) (IsOwnBefore-own trace t n e here (sym c.eq.ensures ∙ w.if-eq.true))
        | else-eq w ↦ subst (IsEndOf (IsOwnBefore trace t n)) (sym w.number-is) (IsOwnBefore-greatest trace t n e here _ known _ (sym c.eq.ensures ∙ w.if-eq.false) (w.look_up-number.ensures.each trace known.numbers known.has))
      ] in
      (KnowsUpTo-next trace t n e here _ _ c.if-eq.number c.record.ensures.recorded end known, end);
}
