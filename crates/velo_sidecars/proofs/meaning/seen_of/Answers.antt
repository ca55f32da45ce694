use Rattle.std.proofs.Common.{refl}
use Rattle.std.proofs.lemmas.List.{take_more}
use Rattle.velo_sidecars.proofs.OnKnown.{more_seen, none_seen_of}
use Rattle.velo_sidecars.proofs.meaning.seen_of.Goals as goal

pub loop-number-init : goal.loop-number-init
loop-number-init c = record { seen = none_seen_of _ _ c.new-seen.ensures refl }

pub loop-number-preserved : goal.loop-number-preserved
loop-number-preserved c =
    let i = c.loop-number.number-index in
    record {
      seen = more_seen _ _ _ _ _ c.loop-number.invariant.seen c.in_ok-insert.ensures.ok (take_more c.args.numbers.now i 0 c.loop-number-test.true);
    }
