use Rattle.std.proofs.Common.{◌≡◌, ◌<◌, ◌≤◌, length, map, sym, ap, ◌∙◌, arith, rules, ⊎_elim}
use Rattle.std.specs.Prelude.{slice_get}
use Rattle.std.proofs.lemmas.Bool.{cases_lt}
use Rattle.std.proofs.lemmas.List.{length-map}
use Rattle.velo_search.specs.Runs.{script_of}
use Rattle.velo_search.proofs.OnBounds.{known-within}
use Rattle.velo_search.proofs.OnNotes.{of_those}
use Rattle.velo_search.proofs.OnNoting.{list-here}
use Rattle.velo_search.proofs.fitting.fitted.Goals as goal

pub loop-thread-preserved : goal.loop-thread-preserved
loop-thread-preserved c =
    let inv = c.loop-thread.invariant in
    let after = c.with_script-bounds in
    let u = c.loop-thread.thread in
    let scripts = map (λ v. v.items) c.args.scripts.now in
    let within : u < length c.args.scripts.now = search rules in
    let script : script_of scripts u ≡ c.deref.result.now = list-here (λ v. v.items) c.args.scripts.now u c.index-scripts-thread.result within c.index-scripts-thread.is ∙ sym c.deref.ensures.value in
    record {
      most = after.ensures.most;
      named = λ t i k below here known. ⊎_elim
          (λ (earlier : t < u). known-within c.loop-thread.bounds after.result k after.ensures.more (inv.named t i k earlier here known))
          (λ (last : u ≤ t).
          let is : t ≡ u = omega (arith, last, below) in
          after.ensures.named i k (ap (λ ks. slice_get ks i) (sym script) ∙ (ap (λ v. slice_get (script_of scripts v) i) (sym is) ∙ here)) known)
          (cases_lt t u);
    }

pub returns-clause-alike : goal.returns-clause-alike
returns-clause-alike c =
    let inv = c.loop-thread.invariant in
    let scripts = map (λ v. v.items) c.args.scripts.now in
    let long = length-map c.args.scripts.now (λ v. v.items) in
    record {
      threads = sym inv.most.threads;
      names = λ t i k here. (
        inv.named t i k (let below = of_those scripts t i k here in omega (arith, below, long, c.loop-thread-test.false)) here,
        known-within c.loop-thread.bounds c.args.most k inv.most,
      );
    }
