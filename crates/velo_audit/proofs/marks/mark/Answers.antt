use Rattle.std.proofs.Common.{◌≡◌, length, refl, ◌∙◌, arith, ⊎_elim, inl, subst}
use Rattle.std.specs.Prelude.{◌⊎◌, ◌↔◌, IsTrue}
use Rattle.std.proofs.lemmas.List.{length-set}
use Rattle.velo_audit.specs.Marks.{mark_at}
use Rattle.velo_audit.specs.Open.{IsAmong}
use Rattle.velo_audit.proofs.OnMarks.{mark-next}
use Rattle.velo_audit.proofs.marks.mark.Goals as goal

pub loop-k-init : goal.loop-k-init
loop-k-init c = record { size = refl; marked = λ b. ((λ m. inl m), (λ w. ⊎_elim (λ m. m) (λ v. absurd (omega (arith, v.within))) w)) }

pub loop-k-preserved : goal.loop-k-preserved
loop-k-preserved c =
    let within = c.requires c.loop-k.k c.loop-k-test.true in
    record {
      size = length-set _ _ _ ∙ c.loop-k.invariant.size;
      marked = mark-next c.args.marks.now.items c.loop-k.marks.items c.args.these.now c.loop-k.k (omega (arith, within, c.loop-k.invariant.size)) c.loop-k.invariant.marked;
    }

pub returns-clause-marked : goal.returns-clause-marked
returns-clause-marked c = λ b. subst (λ n. IsTrue (mark_at c.loop-k.marks.items b) ↔ (IsTrue (mark_at c.args.marks.now.items b) ⊎ IsAmong c.args.these.now n b)) (let all : c.loop-k.k ≡ length c.args.these.now = omega arith in all) (c.loop-k.invariant.marked b)
