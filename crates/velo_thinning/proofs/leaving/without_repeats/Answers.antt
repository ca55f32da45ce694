use Rattle.std.proofs.Common.{◌≡◌, length, subst, arith}
use Rattle.velo_filter.specs.Tables.{marked}
use Rattle.velo_thinning.specs.Finding.{IsLeftTo}
use Rattle.velo_thinning.proofs.OnRepeating.{repeats_of, equal_accesses}
use Rattle.velo_thinning.proofs.leaving.without_repeats.Goals as goal

pub returns : goal.returns
returns c =
    let goes = marked c.in_ok-marks.marks.items in
    let log = c.args.log.now.events in
    let events = c.as_slice-events.result.now in
    let left = c.loop-position.left in
    let at : c.loop-position.position ≡ length events = omega (arith, c.loop-position.auto.position-end, c.loop-position-test.false) in
    let all : IsLeftTo goes log (length log) left
    = subst (λ es. IsLeftTo goes es (length es) left) c.as_slice-events.ensures (subst (λ n. IsLeftTo goes events n left) at c.loop-position.invariant.stands) in
    record {
      goes = goes;
      exact = c.in_ok-marks.ensures.exact;
      repeats = repeats_of goes log c.in_ok-marks.ensures.exact;
      equal = equal_accesses goes log c.in_ok-marks.ensures.exact;
      events = all.events;
      places = all.places;
    }
