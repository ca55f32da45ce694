use Rattle.std.proofs.Common.{arith, ap, sym, subst, ◌∙◌, length}
use Rattle.velo_events.specs.WellFormed.{IsWellFormed}
use Rattle.velo_filter.specs.Tables.{left_of}
use Rattle.velo_audit.proofs.OnAnswers.{length-rest, length-places, RoundTells-check, IsRoundFault-check, if_ok, if_err}
use Rattle.velo_filter.proofs.OnTurns.{IsWellFormed-rest}
use Rattle.velo_audit.proofs.round.whole_round.Goals as goal

pub thin-requires-clause-can_come_about : goal.thin-requires-clause-can_come_about
thin-requires-clause-can_come_about c = record { bounds = c.args.config.now.bounds; well_formed = c.requires.well_formed }

pub check-requires-clause-short : goal.check-requires-clause-short
check-requires-clause-short c = omega (arith, ap length c.in-Ok.ensures.events, length-rest (left_of c.args.left.now) c.args.log.now.events, c.requires.short)

pub check-requires-clause-well_formed : goal.check-requires-clause-well_formed
check-requires-clause-well_formed c = subst (IsWellFormed c.args.config.now.bounds) (sym c.in-Ok.ensures.events) (IsWellFormed-rest (left_of c.args.left.now) c.args.config.now.bounds c.args.log.now.events c.requires.well_formed)

pub check-requires-clause-as_many : goal.check-requires-clause-as_many
check-requires-clause-as_many c = ap length c.in-Ok.ensures.places ∙ (length-places (left_of c.args.left.now) c.args.log.now.events ∙ sym (ap length c.in-Ok.ensures.events))

pub returns-in-Ok-clause-tells : goal.returns-in-Ok-clause-tells
returns-in-Ok-clause-tells c = if_ok c.check.result
    (RoundTells-check c.args.with_witness c.args.log.now.events (left_of c.args.left.now) c.in-Ok.thinned.trace.events c.in-Ok.thinned.places.items c.in-Ok.ensures.events c.in-Ok.ensures.places) c.check.ensures.tells

pub returns-in-Ok-clause-fault : goal.returns-in-Ok-clause-fault
returns-in-Ok-clause-fault c = if_err c.check.result
    (IsRoundFault-check c.args.config.now c.args.log.now.events (left_of c.args.left.now) c.in-Ok.thinned.trace.events c.in-Ok.thinned.places.items c.in-Ok.ensures.events c.in-Ok.ensures.places) c.check.ensures.fault
