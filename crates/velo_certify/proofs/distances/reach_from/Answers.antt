use Rattle.std.proofs.Common.{◌≡◌, ◌-◌, length, refl, subst, arith}
use Rattle.velo_certify.specs.Levels.{level_numbers, MeetsLevel, ReachesOne}
use Rattle.velo_certify.proofs.OnLevels.{number-is, greatest-meets, greatest-none, HasNumbers-reached}
use Rattle.velo_certify.proofs.distances.reach_from.Goals as goal
use Rattle.velo_certify.proofs.distances.reach_from.Goals.{then-index-level, else-index-level}

pub returns-then-found-eq0-clause-numbers : goal.returns-then-found-eq0-clause-numbers
returns-then-found-eq0-clause-numbers c =
    let trace = c.args.events.now in let distance = c.args.reached.now.distance.items in
    (c.take_in-found.ensures.taken.backward (level_numbers trace distance c.args.level)
    (number-is trace distance c.args.level c.args.at c.owner_of-transaction.result c.index.result.now c.if-index-level.number c.owner_of-transaction.ensures.owner
    (let small = c.owner_of-transaction.ensures.small in let count = c.requires.count in omega (arith, small, count)) c.index.ensures
    (λ h. elim c.if-index-level.branch [ then-index-level w ↦ w.number-is | else-index-level w ↦ absurd (w.if-index-level.false h) ])
    (λ h. elim c.if-index-level.branch [ then-index-level w ↦ absurd (h w.if-index-level.true) | else-index-level w ↦ w.number-is ]))
    c.requires.numbers).0

pub returns-then-found-eq0-clause-reaches : goal.returns-then-found-eq0-clause-reaches
returns-then-found-eq0-clause-reaches c =
    let trace = c.args.events.now in let distance = c.args.reached.now.distance.items in
    record {
      same = refl;
      none = greatest-none trace distance c.args.level c.args.at c.take_in-found.result (c.take_in-found.ensures.taken.backward (level_numbers trace distance c.args.level)
          (number-is trace distance c.args.level c.args.at c.owner_of-transaction.result c.index.result.now c.if-index-level.number c.owner_of-transaction.ensures.owner
          (let small = c.owner_of-transaction.ensures.small in let count = c.requires.count in omega (arith, small, count)) c.index.ensures
          (λ h. elim c.if-index-level.branch [ then-index-level w ↦ w.number-is | else-index-level w ↦ absurd (w.if-index-level.false h) ])
          (λ h. elim c.if-index-level.branch [ then-index-level w ↦ absurd (h w.if-index-level.true) | else-index-level w ↦ w.number-is ]))
          c.requires.numbers).1 c.if-found-eq0.true;
    }

pub overflow_sub-next : goal.overflow_sub-next
overflow_sub-next c =
    let trace = c.args.events.now in let distance = c.args.reached.now.distance.items in
    let greatest = (c.take_in-found.ensures.taken.backward (level_numbers trace distance c.args.level)
    (number-is trace distance c.args.level c.args.at c.owner_of-transaction.result c.index.result.now c.if-index-level.number c.owner_of-transaction.ensures.owner
    (let small = c.owner_of-transaction.ensures.small in let count = c.requires.count in omega (arith, small, count)) c.index.ensures
    (λ h. elim c.if-index-level.branch [ then-index-level w ↦ w.number-is | else-index-level w ↦ absurd (w.if-index-level.false h) ])
    (λ h. elim c.if-index-level.branch [ then-index-level w ↦ absurd (h w.if-index-level.true) | else-index-level w ↦ w.number-is ]))
    c.requires.numbers).1 in
    let (b, inside, sum, meets) = greatest-meets trace distance c.args.level c.args.at c.take_in-found.result greatest (omega (arith, c.if-found-eq0.false)) in
    omega (arith, sum)

pub returns-clause-numbers : goal.returns-clause-numbers
returns-clause-numbers c =
    let trace = c.args.events.now in let distance = c.args.reached.now.distance.items in
    let reaches = subst (λ a. ReachesOne c.args.level a (length trace - c.take_in-found.result) c.args.reached.now c.reach.new.self) c.owner_of-transaction.ensures.owner c.reach.ensures in
    HasNumbers-reached trace c.args.level _ (length trace - c.take_in-found.result) c.args.at c.args.reached.now c.reach.new.self c.requires.positive reaches c.take_in-found.new.table
    (c.take_in-found.ensures.taken.backward (level_numbers trace distance c.args.level)
    (number-is trace distance c.args.level c.args.at c.owner_of-transaction.result c.index.result.now c.if-index-level.number c.owner_of-transaction.ensures.owner
    (let small = c.owner_of-transaction.ensures.small in let count = c.requires.count in omega (arith, small, count)) c.index.ensures
    (λ h. elim c.if-index-level.branch [ then-index-level w ↦ w.number-is | else-index-level w ↦ absurd (w.if-index-level.false h) ])
    (λ h. elim c.if-index-level.branch [ then-index-level w ↦ absurd (h w.if-index-level.true) | else-index-level w ↦ w.number-is ]))
    c.requires.numbers).0

pub returns-clause-reaches : goal.returns-clause-reaches
returns-clause-reaches c =
    let trace = c.args.events.now in let distance = c.args.reached.now.distance.items in
    let greatest = (c.take_in-found.ensures.taken.backward (level_numbers trace distance c.args.level)
    (number-is trace distance c.args.level c.args.at c.owner_of-transaction.result c.index.result.now c.if-index-level.number c.owner_of-transaction.ensures.owner
    (let small = c.owner_of-transaction.ensures.small in let count = c.requires.count in omega (arith, small, count)) c.index.ensures
    (λ h. elim c.if-index-level.branch [ then-index-level w ↦ w.number-is | else-index-level w ↦ absurd (w.if-index-level.false h) ])
    (λ h. elim c.if-index-level.branch [ then-index-level w ↦ absurd (h w.if-index-level.true) | else-index-level w ↦ w.number-is ]))
    c.requires.numbers).1 in
    let (b, inside, sum, meets) = greatest-meets trace distance c.args.level c.args.at c.take_in-found.result greatest (omega (arith, c.if-found-eq0.false)) in
    let is : b ≡ length trace - c.take_in-found.result = omega (arith, sum) in
    record {
      meets = subst (MeetsLevel trace distance c.args.level c.args.at) is meets;
      reaches = subst (λ a. ReachesOne c.args.level a (length trace - c.take_in-found.result) c.args.reached.now c.reach.new.self) c.owner_of-transaction.ensures.owner c.reach.ensures;
    }
