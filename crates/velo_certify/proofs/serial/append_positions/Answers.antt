use Rattle.std.proofs.Common.{◌≡◌, ◌++◌, ◌∷◌, [], sym, ap, ◌∙◌, append_assoc, arith}
use Rattle.std.specs.Prelude.{slice_index}
use Rattle.std.proofs.lemmas.List.{append-nil}
use Rattle.velo_events.specs.Block.{owner}
use Rattle.velo_certify.proofs.OnSerial.{positions_below, below-own, below-first}
use Rattle.velo_certify.proofs.OnThreads.{Follows-start, Follows-next, below-next, below-end}
use Rattle.velo_certify.proofs.serial.append_positions.Goals as goal
use Rattle.velo_certify.proofs.serial.append_positions.Goals.{then-loop-at-test+else-owner_of-a, else-loop-at-test}

pub loop-at-init : goal.loop-at-init
loop-at-init c = record {
  follows = Follows-start c.args.events.now c.args.a c.requires.transaction.within;
  items = sym (ap (λ xs. c.args.order.now.items ++ xs) (below-first c.args.events.now c.args.a) ∙ append-nil c.args.order.now.items);
}

pub loop-at-preserved : goal.loop-at-preserved
loop-at-preserved c =
    let trace = c.args.events.now in let a = c.args.a in let n = c.loop-at.at in let old = c.args.order.now.items in let k = slice_index c.args.following.now n in
    let own : owner trace n ≡ a = sym c.owner_of.ensures.owner ∙ c.if-owner_of-a.true in
    let next = c.requires.following.each n (omega arith) c.loop-at-test.true in
    let w = c.loop-at.invariant.follows in
    record {
      follows = Follows-next trace a n k c.requires.transaction w c.loop-at-test.true own next;
      items = c.push_reserved.ensures.items ∙ (ap (λ xs. xs ++ n ∷ []) (c.reserve.ensures.items ∙ c.loop-at.invariant.items)
          ∙ (append_assoc old (positions_below trace a n) (n ∷ [])
          ∙ ap (λ xs. old ++ xs) (sym (below-own trace a n own) ∙ sym (below-next trace a n k c.requires.transaction w c.loop-at-test.true own next))));
    }

pub returns-clause-ok : goal.returns-clause-ok
returns-clause-ok c =
    let trace = c.args.events.now in let a = c.args.a in let n = c.loop-at.at in
    c.loop-at.invariant.items ∙ ap (λ xs. c.args.order.now.items ++ xs) (below-end trace a n n c.requires.transaction c.loop-at.invariant.follows (λ l own.
    elim c.loop-at-test.branch [
      | then-loop-at-test+else-owner_of-a w ↦ w.if-owner_of-a.false (w.owner_of.ensures.owner ∙ own)
      | else-loop-at-test w ↦ omega (arith, l, w.loop-at-test.false)
    ]))
