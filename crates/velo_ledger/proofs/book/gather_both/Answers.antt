use Rattle.std.proofs.Common.{◌≤◌, arith, length, take_all}
use Rattle.std.proofs.lemmas.Grind.{common_steps}
use Rattle.velo_ledger.proofs.Complete.{complete_by_places, places_fit, sum-next, rows-next, fits-next}
use Rattle.velo_ledger.proofs.book.gather_both.Goals as goal

pub returns-in_err-sum-clause-sum : goal.returns-in_err-sum-clause-sum
returns-in_err-sum-clause-sum c =
    let refused = rw (c.at.ensures.share, c.at-in-loop-place.ensures.share) at c.in_err-sum.ensures.sum in
    rw c.from_residual.ensures (λ complete. refused (places_fit c.args.book.now c.args.kept.now c.args.given.now c.loop-place.place complete))

pub loop-place-preserved : goal.loop-place-preserved
loop-place-preserved c =
    let here = rw (c.at.ensures.share, c.at-in-loop-place.ensures.share) at c.in_ok-sum.ensures.sum in
    let kept = sum-next c.args.kept.now c.loop-place.place in
    let given = sum-next c.args.given.now c.loop-place.place in
    let row = rows-next c.args.book.now c.args.kept.now c.args.given.now c.loop-place.place c.at.ensures.in_place c.at-in-loop-place.ensures.in_place here.0 in
    record {
      few = let few = c.in_ok-sum.ensures.few in let i = c.loop-place.invariant.few in omega arith;
      sum = let sum = here.1 in let i = c.loop-place.invariant.sum in omega (arith, kept, given);
      rows = let sum = here.1 in let i = c.loop-place.invariant.rows in omega (arith, row);
      fit = fits-next c.args.book.now c.args.kept.now c.args.given.now c.loop-place.place here.0 c.loop-place.invariant.fit;
    }

pub returns-clause-sum : goal.returns-clause-sum
returns-clause-sum c =
    let rows : length c.args.book.now.rows ≤ c.loop-place.place = grind (arith, common_steps) in
    let kept : length c.args.kept.now ≤ c.loop-place.place = grind (arith, common_steps) in
    let given : length c.args.given.now ≤ c.loop-place.place = grind (arith, common_steps) in
    let sum = rw (take_all c.loop-place.place c.args.kept.now kept, take_all c.loop-place.place c.args.given.now given) at c.loop-place.invariant.sum in
    (complete_by_places c.args.book.now c.args.kept.now c.args.given.now c.loop-place.place rows kept given (λ t lt. c.loop-place.invariant.fit t lt), sum)
