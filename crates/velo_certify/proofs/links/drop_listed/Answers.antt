use Rattle.std.proofs.Common.{◌≡◌, ◌-◌, suc, Some, refl, sym, ap, ◌∙◌, subst, arith}
use Rattle.std.specs.Prelude.{slice_get, IsTrue}
use Rattle.std.proofs.lemmas.Bool.{eqb-true, eqb-false}
use Rattle.std.proofs.lemmas.Option.{slice_get-get_or, same_Some}
use Rattle.velo_certify.specs.declared.chains.Link.{Link}
use Rattle.velo_certify.specs.Serial.{has}
use Rattle.velo_certify.proofs.OnListed.{IsLeft-next, DropsListed-by}
use Rattle.velo_certify.proofs.links.drop_listed.Goals as goal
use Rattle.velo_certify.proofs.links.drop_listed.Goals.{then-loop-k-test+else-is_listed, else-loop-k-test}

pub loop-k-preserved : goal.loop-k-preserved
loop-k-preserved c =
    let links = c.args.links.now.links.items in
    let k = c.loop-k.k in
    let one : k ≡ suc (k - 1) = omega (arith, c.loop-k-test.true) in
    let next : slice_get links (k - 1) ≡ Some c.index-in-loop-k.result.now = slice_get-get_or links (k - 1) c.index-in-loop-k.result.now (omega (arith, c.loop-k-test.true, c.loop-k.invariant.within)) ∙ ap (λ (e : Link). Some e) (sym c.index-in-loop-k.ensures) in
    let read : slice_get links (k - 1) ≡ Some c.index.result.now = slice_get-get_or links (k - 1) c.index.result.now (omega (arith, c.loop-k-test.true, c.loop-k.invariant.within)) ∙ ap (λ (e : Link). Some e) (sym c.index.ensures) in
    let down = c.args.links.now.descending.each (k - 1) c.index-in-loop-k.result.now next in
    let known : IsTrue (has c.args.listed.now c.index.result.now.before) = sym c.is_listed.ensures ∙ c.if-is_listed.true in
    record {
      within = omega (arith, down, c.loop-k.invariant.within);
      left = λ xs chain. IsLeft-next c.args.listed.now c.args.links.now k (k - 1) c.index-in-loop-k.result.now xs one next
          (subst (λ (e : Link). IsTrue (has c.args.listed.now e.before)) (same_Some c.index.result.now c.index-in-loop-k.result.now (sym read ∙ next)) known) (c.loop-k.invariant.left xs chain);
    }

pub returns : goal.returns
returns c =
    let k = c.loop-k.k in
    DropsListed-by c.args.listed.now c.args.a c.args.links.now _ _ k c.requires refl refl c.loop-k.invariant.left (λ h. eqb-true k 0 h)
    (λ h. elim c.loop-k-test.branch [
      | then-loop-k-test+else-is_listed w ↦ (
        k - 1,
        w.index.result.now,
        omega (arith, w.loop-k-test.true),
        slice_get-get_or c.args.links.now.links.items (k - 1) w.index.result.now (omega (arith, w.loop-k-test.true, c.loop-k.invariant.within)) ∙ ap (λ (e : Link). Some e) (sym w.index.ensures),
        sym w.is_listed.ensures ∙ w.if-is_listed.false,
      )
      | else-loop-k-test w ↦ absurd (eqb-false k 0 h (omega (arith, w.loop-k-test.false)))
    ])
