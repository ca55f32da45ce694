use Rattle.std.proofs.Common.{◌∙◌, sym, subst}
use Rattle.std.proofs.lemmas.Bool.{eqb-true}
use Rattle.velo_events.specs.Graph.{Edge}
use Rattle.velo_certify.proofs.OnLevels.{MeetsLevel-edge, IsPassed-none, IsPassed-next}
use Rattle.velo_certify.proofs.distances.pass.Goals as goal

pub returns-then-next-target-clause-passed : goal.returns-then-next-target-clause-passed
returns-then-next-target-clause-passed c = λ first low w.
    IsPassed-next c.args.events.now c.args.target c.args.level c.args.at first c.args.reached.now c.reach_from.new.reached c.requires.positive low w c.in-Some.next c.in-Some.ensures.reaches

pub returns-then-next-target-clause-closes : goal.returns-then-next-target-clause-closes
returns-then-next-target-clause-closes c = λ yes.
    let is = sym c.owner_of.ensures.owner ∙ eqb-true c.owner_of.result c.args.target yes in
    let meets = c.in-Some.ensures.reaches.meets in (
      c.in-Some.next,
      subst (λ a. Edge c.args.events.now a c.in-Some.next) is
          (MeetsLevel-edge c.args.events.now c.args.reached.now.distance.items c.args.level c.args.at c.in-Some.next meets (λ same. c.if-next-target.true (sym same ∙ is))),
      meets.on_level,
    )

pub returns-else-next-target-clause-passed : goal.returns-else-next-target-clause-passed
returns-else-next-target-clause-passed c = λ first low w.
    IsPassed-next c.args.events.now c.args.target c.args.level c.args.at first c.args.reached.now c.reach_from.new.reached c.requires.positive low w c.in-Some.next c.in-Some.ensures.reaches

pub returns-in-None-clause-passed : goal.returns-in-None-clause-passed
returns-in-None-clause-passed c = λ first low w.
    IsPassed-none c.args.events.now c.args.target c.args.level c.args.at first c.args.reached.now c.reach_from.new.reached c.requires.positive low w c.in-None.ensures.reaches
