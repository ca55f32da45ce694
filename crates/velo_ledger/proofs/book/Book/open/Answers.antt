use Rattle.std.proofs.Common.{arith}
use Rattle.std.proofs.lemmas.Grind.{common_steps}
use Rattle.velo_ledger.proofs.Complete.{opening-next, opening-in_place, opening-complete}
use Rattle.velo_ledger.proofs.book.Book.open.Goals as goal

pub loop-thread-preserved : goal.loop-thread-preserved
loop-thread-preserved c = record {
  row_room = grind (arith, common_steps);
  place_room = grind (arith, common_steps);
  rows = grind (arith, common_steps);
  opening = opening-next c.args.run c.loop-thread.thread _ _ _ (grind (arith, common_steps)) c.push_reserved-in-loop-thread.ensures.items c.loop-thread.invariant.opening;
}

pub invariant_of-result-2 : goal.invariant_of-result-2
invariant_of-result-2 c = opening-in_place c.args.run c.loop-thread.thread c.loop-thread.places.items (grind (arith, common_steps)) c.loop-thread.invariant.opening

pub returns-clause-fit : goal.returns-clause-fit
returns-clause-fit c = rw c.loop-thread.invariant.rows (opening-complete c.args.run c.loop-thread.thread c.loop-thread.places.items c.loop-thread.invariant.opening)
