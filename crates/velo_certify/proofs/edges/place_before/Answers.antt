use Rattle.velo_certify.specs.Edges.{own_places}
use Rattle.velo_certify.proofs.OnEdges.{own_places-is, place-some, place-edge}
use Rattle.velo_certify.proofs.edges.place_before.Goals as goal
use Rattle.velo_certify.proofs.edges.place_before.Goals.{then-transaction-from, else-transaction-from}

pub returns-clause-numbers : goal.returns-clause-numbers
returns-clause-numbers c =
    (c.take_in.ensures.taken.forward (own_places c.args.events.now c.args.from)
    (own_places-is c.args.events.now c.args.from c.args.at c.owner_of-transaction.result c.if-transaction-from.number c.owner_of-transaction.ensures.owner
    (λ h. elim c.if-transaction-from.branch [ then-transaction-from w ↦ w.number-is | else-transaction-from w ↦ absurd (w.if-transaction-from.false h) ])
    (λ h. elim c.if-transaction-from.branch [ then-transaction-from w ↦ absurd (h w.if-transaction-from.true) | else-transaction-from w ↦ w.number-is ]))
    c.requires.numbers).0

pub returns-clause-some : goal.returns-clause-some
returns-clause-some c =
    place-some c.args.events.now c.args.from c.args.at c.take_in.result
    (c.take_in.ensures.taken.forward (own_places c.args.events.now c.args.from)
    (own_places-is c.args.events.now c.args.from c.args.at c.owner_of-transaction.result c.if-transaction-from.number c.owner_of-transaction.ensures.owner
    (λ h. elim c.if-transaction-from.branch [ then-transaction-from w ↦ w.number-is | else-transaction-from w ↦ absurd (w.if-transaction-from.false h) ])
    (λ h. elim c.if-transaction-from.branch [ then-transaction-from w ↦ absurd (h w.if-transaction-from.true) | else-transaction-from w ↦ w.number-is ]))
    c.requires.numbers).1

pub returns-clause-edge : goal.returns-clause-edge
returns-clause-edge c =
    place-edge c.args.events.now c.args.from c.args.at c.take_in.result
    (c.take_in.ensures.taken.forward (own_places c.args.events.now c.args.from)
    (own_places-is c.args.events.now c.args.from c.args.at c.owner_of-transaction.result c.if-transaction-from.number c.owner_of-transaction.ensures.owner
    (λ h. elim c.if-transaction-from.branch [ then-transaction-from w ↦ w.number-is | else-transaction-from w ↦ absurd (w.if-transaction-from.false h) ])
    (λ h. elim c.if-transaction-from.branch [ then-transaction-from w ↦ absurd (h w.if-transaction-from.true) | else-transaction-from w ↦ w.number-is ]))
    c.requires.numbers).1
