use Rattle.velo_audit.proofs.OnAnswers.{if_ok}
use Rattle.velo_certify.proofs.OnClosing.{closing_cycle}
use Rattle.velo_audit.proofs.OnWitness.{blames-within, IsEvidenceOf-read}
use Rattle.velo_audit.proofs.witness.witness_of.Goals as goal

pub evidence_as_read-requires-clause-blames : goal.evidence_as_read-requires-clause-blames
evidence_as_read-requires-clause-blames c =
    blames-within c.args.what.now.events c.args.places.now c.args.alarm.now.position c.as_slice.result.now c.in-Ok.inside c.requires.as_many c.in-Ok.ensures.evidence

pub unreachable-requires : goal.unreachable-requires
unreachable-requires c =
    closing_cycle c.args.what.now.events c.args.alarm.now.position c.requires.alarm.closing
    (rw c.in-Err-NoCycle.field-0-is at c.in-Err-NoCycle.ensures.fault)

pub returns-in-Ok : goal.returns-in-Ok
returns-in-Ok c = if_ok c.evidence_as_read.result
    (λ evidence reads. IsEvidenceOf-read c.args.what.now.events c.args.places.now c.args.alarm.now c.requires.alarm c.as_slice.result.now c.as_slice.ensures c.in-Ok.inside evidence c.in-Ok.ensures.evidence c.in-Ok.ensures.reasons reads)
    c.evidence_as_read.ensures
