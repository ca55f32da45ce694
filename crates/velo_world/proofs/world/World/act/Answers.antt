use Rattle.velo_world.proofs.OnWorlds.{later-added, IsWorldOfItsLog-added, Acts-performed, FitsLog-performed, OthersStillFit-performed}
use Rattle.velo_world.proofs.OnSteps.{left_by-no_fork}
use Rattle.velo_world.proofs.world.World.act.Goals as goal

pub enter-requires-clause-later : goal.enter-requires-clause-later
enter-requires-clause-later c =
    later-added c.self.inside _ _ _ _ _ _ c.perform.new.self c.self.view_is c.self.invariant c.thread.ensures c.requires.fits c.in_ok-event.ensures.outcome

pub invariant_of-self-2 : goal.invariant_of-self-2
invariant_of-self-2 c =
    IsWorldOfItsLog-added c.self.inside _ _ _ c.args.action _ _ c.perform.new.self c.self.view_is c.self.invariant c.thread.ensures c.requires.fits c.in_ok-event.ensures.outcome _ _ c.perform.ensures.stands c.enter.ensures.book (left_by-no_fork _ _ c.requires.fork)

pub returns-clause-outcome : goal.returns-clause-outcome
returns-clause-outcome c =
    Acts-performed c.self.inside _ _ _ _ _ _ c.perform.new.self c.self.view_is c.self.invariant c.thread.ensures c.requires.fits c.in_ok-event.ensures.outcome _ c.enter.ensures.share

pub returns-clause-fits : goal.returns-clause-fits
returns-clause-fits c =
    FitsLog-performed c.self.inside _ _ _ _ _ _ c.perform.new.self c.self.view_is c.self.invariant c.thread.ensures c.requires.fits c.in_ok-event.ensures.outcome _ c.enter.ensures.share

pub returns-clause-others : goal.returns-clause-others
returns-clause-others c =
    OthersStillFit-performed c.self.inside _ _ _ _ _ _ c.perform.new.self c.self.view_is c.self.invariant c.thread.ensures c.requires.fits c.in_ok-event.ensures.outcome
