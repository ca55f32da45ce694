use Rattle.std.proofs.Common.{◌∙◌, refl, sym, length}
use Rattle.velo_explain.specs.Pairs.{first_pair_below, pair_at}
use Rattle.velo_explain.proofs.OnPairs.{first-none, first-some}
use Rattle.velo_explain.proofs.pairs.first_pair.Goals as goal

pub loop-at-init : goal.loop-at-init
unfolding first_pair_below
loop-at-init c = record {
  places = c.in_ok-latest.ensures.places;
  latest = c.in_ok-latest.ensures.none c.args.events.now c.args.from;
  none = refl;
}

pub returns-in-Some-clause-pair : goal.returns-in-Some-clause-pair
returns-in-Some-clause-pair c =
    sym (first-some c.loop-at.at (length c.args.events.now) (pair_at c.args.events.now c.args.from c.args.to) c.in-Some.pair
    c.loop-at-test.true c.loop-at.invariant.none
    (sym (c.pair_at.ensures.pair c.args.from c.loop-at.invariant.latest) ∙ c.in-Some.is))

pub loop-at-preserved : goal.loop-at-preserved
loop-at-preserved c = record {
  places = c.take_in.ensures.places;
  latest = c.take_in.ensures.latest;
  none = first-none c.loop-at.at (pair_at c.args.events.now c.args.from c.args.to) c.loop-at.invariant.none
      (sym (c.pair_at.ensures.pair c.args.from c.loop-at.invariant.latest) ∙ c.in_default.is);
}
