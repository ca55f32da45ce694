use Rattle.std.proofs.Common.{◌≡◌, Some, sym, subst, arith, ⊎_elim}
use Rattle.std.specs.Prelude.{slice_get, slice_index_or}
use Rattle.std.proofs.lemmas.Bool.{cases_lt}
use Rattle.std.proofs.lemmas.Option.{slice_get_within, get_or_from_slice_get}
use Rattle.velo_events.specs.WellFormed.{NamesKnown}
use Rattle.velo_search.proofs.OnBounds.{known-within, within-also}
use Rattle.velo_search.proofs.OnNoting.{blank_kind}
use Rattle.velo_search.proofs.fitting.with_script.Goals as goal

pub loop-place-preserved : goal.loop-place-preserved
loop-place-preserved c =
    let inv = c.loop-place.invariant in
    let after = c.with_names-bounds in
    let script = c.args.script.now in
    let at = c.loop-place.place in
    record {
      more = within-also c.args.bounds c.loop-place.bounds after.result inv.more after.ensures.more;
      most = after.ensures.most;
      named = λ i k below here known. ⊎_elim
          (λ earlier. known-within c.loop-place.bounds after.result k after.ensures.more (inv.named i k earlier here known))
          (λ last.
          let is : i ≡ at = omega (arith, below, last) in
          let kind : slice_index_or script at blank_kind ≡ k = get_or_from_slice_get script at k blank_kind (subst (λ n. slice_get script n ≡ Some k) is here) in
          subst (λ l. NamesKnown after.result l) kind (after.ensures.named (subst (λ l. NamesKnown c.args.most l) (sym kind) known)))
          (cases_lt i at);
    }

pub returns-clause-named : goal.returns-clause-named
returns-clause-named c = λ i k here.
    let within = slice_get_within c.args.script.now i k here in
    c.loop-place.invariant.named i k (let past = c.loop-place-test.false in omega (arith, within, past)) here
