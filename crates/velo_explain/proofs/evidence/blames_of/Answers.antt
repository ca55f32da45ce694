use Rattle.std.proofs.Common.{ℕ, Option, ◌+◌, ◌≤◌, length, get_or, refl, sym, subst, arith}
use Rattle.std.specs.Prelude.{MatchOption, vec_capacity}
use Rattle.velo_explain.specs.declared.evidence.Blame.{Blame}
use Rattle.velo_certify.specs.Witness.{IsWitness}
use Rattle.velo_explain.specs.Evidence.{no_block, AreBlamesSoFar}
use Rattle.velo_explain.proofs.OnEvidence.{AreBlamesSoFar-none, AreBlamesSoFar-next}
use Rattle.velo_explain.proofs.evidence.blames_of.Goals as goal
use Rattle.velo_explain.proofs.evidence.blames_of.Goals.{in-Some, in_default}

pub loop-k-preserved : goal.loop-k-preserved
loop-k-preserved c =
    let trace = c.args.trace.now.events in let p = c.args.position in let blamed = c.args.blamed.now in let k = c.loop-k.k in let block = get_or blamed k no_block in
    let found : Option ℕ → Type 0 = λ o. MatchOption o ((w : ℕ) → ¬ IsWitness trace block.first p w) (IsWitness trace block.first p) in
    elim c.match-branch-3.branch [
      | in-Some w ↦
          let blame : Blame = record { block = block; witness = w.in-Some.witness } in
          record {
            blames = subst (λ v. AreBlamesSoFar trace p blamed (k + 1) v.items) (sym w.blames-is)
                (subst (AreBlamesSoFar trace p blamed (k + 1)) (sym w.push_reserved.ensures.items)
                (AreBlamesSoFar-next trace p blamed k c.loop-k.blames.items c.loop-k-test.true c.loop-k.invariant.blames blame refl (subst found w.in-Some.is c.in_ok-witness.ensures)));
            room = subst (λ v. length blamed ≤ vec_capacity v) (sym w.blames-is) (omega (arith, w.push_reserved.ensures.capacity, c.loop-k.invariant.room));
          }
      | in_default w ↦
          record {
            blames = subst (λ v. AreBlamesSoFar trace p blamed (k + 1) v.items) (sym w.blames-is)
                (AreBlamesSoFar-none trace p blamed k c.loop-k.blames.items c.loop-k-test.true c.loop-k.invariant.blames (subst found w.in_default.is c.in_ok-witness.ensures));
            room = subst (λ v. length blamed ≤ vec_capacity v) (sym w.blames-is) c.loop-k.invariant.room;
          }
    ]
