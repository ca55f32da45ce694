use Rattle.std.proofs.Common.{subst, arith}
use Rattle.velo_events.proofs.OnWellFormed.{IsWellFormed-take}
use Rattle.velo_world.specs.FirstCycle.{IsFirstClosing}
use Rattle.velo_world.proofs.first_cycle.noted.Goals as goal

pub clocks_of-requires-in-Some-clause-well_formed : goal.clocks_of-requires-in-Some-clause-well_formed
clocks_of-requires-in-Some-clause-well_formed c =
    let first = subst (IsFirstClosing c.args.events.now) c.in-Some.is c.requires.closing in
    let within = first.closes.in_trace in
    IsWellFormed-take c.args.config.now.bounds c.args.events.now c.in-Some.closing.position (omega (arith, within)) c.requires.well_formed
