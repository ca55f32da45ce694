use Rattle.std.proofs.Common.{◌≤◌, sym, subst, set, arith}
use Rattle.std.specs.Prelude.{slice_index}
use Rattle.velo_events.specs.Block.{owner}
use Rattle.velo_certify.specs.Links.{IsLinked}
use Rattle.velo_certify.proofs.OnChains.{IsAdded, IsAdded-by, OnOk-both}
use Rattle.velo_certify.proofs.OnCovering.{IsLinked-own, IsLinked-known, IsLinked-added}
use Rattle.velo_certify.proofs.links.link.Goals as goal

pub returns-then-events-from-clause-linked : goal.returns-then-events-from-clause-linked
returns-then-events-from-clause-linked c =
    IsLinked-own c.args.events.now c.args.from c.args.to c.args.number c.requires.before c.requires.within c.args.links.now c.args.known.now c.if-events-from.true

pub returns-then-known-pair-clause-linked : goal.returns-then-known-pair-clause-linked
returns-then-known-pair-clause-linked c =
    let pair = c.pair_of-pair.ensures.pair in
    IsLinked-known c.args.events.now c.args.from c.args.to c.args.number c.requires.before c.requires.within c.pair_of-pair.ensures.thread c.args.links.now c.args.known.now c.requires.positive
    (subst (λ p. c.args.number ≤ slice_index c.args.known.now p) pair c.if-known-pair.true)

pub returns-clause-linked : goal.returns-clause-linked
returns-clause-linked c =
    let trace = c.args.events.now in let old = c.args.links.now in let new = c.add.new.self in let known = c.args.known.now in
    let pair = c.pair_of-pair.ensures.pair in
    let small = c.pair_of-pair.ensures.small in
    let of_from = c.owner_of.ensures.owner in
    let of_to = c.owner_of-2.ensures.owner in
    let inside = c.owner_of-2.ensures.small in
    let count = c.requires.rows.count in
    OnOk-both _ _ _ c.add.result
    (λ links heads.
    subst (λ p. IsLinked trace c.args.from c.args.to c.args.number known (set known p c.args.number) old new) (sym pair)
    (IsLinked-added trace c.args.from c.args.to c.args.number c.requires.before c.requires.within c.pair_of-pair.ensures.thread c.requires.clash c.if-events-from.false old new
    (subst (λ b. IsAdded old new b (owner trace c.args.to)) of_from (subst (λ a. IsAdded old new c.owner_of.result a) of_to (IsAdded-by old new c.owner_of.result c.owner_of-2.result (omega (arith, inside, count)) links heads)))
    c.requires.rows (omega (arith, inside, of_to)) (omega (arith, small, pair)) known))
    c.add.ensures.links c.add.ensures.heads
