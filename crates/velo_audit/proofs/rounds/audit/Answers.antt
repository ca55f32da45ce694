use Rattle.std.proofs.Common.{◌≡◌, Result, Ok, Err, sym, subst}
use Rattle.std.specs.Prelude.{IfErr, IsErrAnd}
use Rattle.velo_filter.specs.Tables.{left_of}
use Rattle.velo_audit.specs.Audit.{IsAuditFault}
use Rattle.velo_audit.specs.declared.round.AuditFault.{AuditFault}
use Rattle.velo_audit.proofs.OnAudit.{StandsAt-start, StandsAt-push, audit-fault, audit-smaller, audit-rounds, audit-left, audit-only, audit-found, audit-few, audit-serializable}
use Rattle.velo_audit.proofs.rounds.audit.Goals as goal

pub loop-cut-init : goal.loop-cut-init
loop-cut-init c = record { stands = StandsAt-start c.args.with_witness c.args.log.now.events (left_of c.args.left.now) c.new-rounds.result.items c.new-rounds.ensures.items; is_cut = c.in_ok-cut.ensures (left_of c.args.left.now) c.args.log.now.events }

pub loop-cut-smaller : goal.loop-cut-smaller
loop-cut-smaller c = audit-smaller c.args.with_witness c.args.log.now.events (left_of c.args.left.now) c.loop-cut.rounds.items (left_of c.loop-cut.left) c.loop-cut.invariant.stands c.in_ok-told.field-0 c.in_ok-told.ensures.tells (left_of c.next_round.new.left) c.in_ok-told.ensures.left c.in-Some.told c.in-Some.is

pub loop-cut-preserved : goal.loop-cut-preserved
loop-cut-preserved c = record { stands = StandsAt-push c.args.with_witness c.args.log.now.events (left_of c.args.left.now) c.loop-cut.rounds.items (left_of c.loop-cut.left) c.loop-cut.invariant.stands c.in_ok-told.field-0 c.in_ok-told.ensures.tells (left_of c.next_round.new.left) c.in_ok-told.ensures.left c.in-Some.told c.in-Some.is c.keep.new.rounds.items c.in_ok-keep.ensures.ok; is_cut = c.in_ok-told.ensures.cut }

pub returns-clause-rounds : goal.returns-clause-rounds
returns-clause-rounds c = audit-rounds c.args.with_witness c.args.log.now.events (left_of c.args.left.now) c.loop-cut.rounds.items (left_of c.loop-cut.left) c.loop-cut.invariant.stands c.in_ok-told.field-0 c.in_ok-told.ensures.tells (left_of c.next_round.new.left) c.in_ok-told.ensures.left c.in_default.is

pub returns-clause-truly : goal.returns-clause-truly
returns-clause-truly c = c.loop-cut.invariant.stands.truly

pub returns-clause-left : goal.returns-clause-left
returns-clause-left c = audit-left c.args.with_witness c.args.log.now.events (left_of c.args.left.now) c.loop-cut.rounds.items (left_of c.loop-cut.left) c.loop-cut.invariant.stands c.in_ok-told.field-0 c.in_ok-told.ensures.tells (left_of c.next_round.new.left) c.in_ok-told.ensures.left c.in_default.is

pub returns-clause-only : goal.returns-clause-only
returns-clause-only c = audit-only c.args.with_witness c.args.log.now.events (left_of c.args.left.now) c.loop-cut.rounds.items (left_of c.loop-cut.left) c.loop-cut.invariant.stands c.in_ok-told.field-0 c.in_ok-told.ensures.tells (left_of c.next_round.new.left) c.in_ok-told.ensures.left c.in_default.is

pub returns-clause-found : goal.returns-clause-found
returns-clause-found c = audit-found c.args.with_witness c.args.log.now.events (left_of c.args.left.now) c.loop-cut.rounds.items (left_of c.loop-cut.left) c.loop-cut.invariant.stands c.in_ok-told.field-0 c.in_ok-told.ensures.tells (left_of c.next_round.new.left) c.in_ok-told.ensures.left c.in_default.is

pub returns-clause-few : goal.returns-clause-few
returns-clause-few c = audit-few c.args.with_witness c.args.log.now.events (left_of c.args.left.now) c.loop-cut.rounds.items (left_of c.loop-cut.left) c.loop-cut.invariant.stands c.in_ok-told.field-0 c.in_ok-told.ensures.tells (left_of c.next_round.new.left) c.in_ok-told.ensures.left c.in_default.is

pub returns-clause-serializable : goal.returns-clause-serializable
returns-clause-serializable c = audit-serializable c.args.with_witness c.args.log.now.events (left_of c.args.left.now) c.loop-cut.rounds.items (left_of c.loop-cut.left) c.loop-cut.invariant.stands c.in_ok-told.field-0 c.in_ok-told.ensures.tells (left_of c.next_round.new.left) c.in_ok-told.ensures.left c.in_default.is

pub returns-clause-witnessed : goal.returns-clause-witnessed
returns-clause-witnessed c = c.loop-cut.invariant.stands.witnessed

handed_on : {X : Type 0} (result : Result X AuditFault) (r : AuditFault) (P : AuditFault → Type 0) → IsErrAnd result (λ f. f ≡ r) → P r → IfErr result P
handed_on (Ok x) r P same holds = tt
handed_on (Err f) r P same holds = subst P (sym same) holds

pub returns-in_err-told-clause-fault : goal.returns-in_err-told-clause-fault
returns-in_err-told-clause-fault c = handed_on c.from_residual-in_err-told.result c.in_err-told.field-0.0 (IsAuditFault c.args.config.now c.args.log.now.events (left_of c.args.left.now)) c.from_residual-in_err-told.ensures.1
    (audit-fault c.args.with_witness c.args.config.now c.args.log.now.events (left_of c.args.left.now) c.loop-cut.rounds.items (left_of c.loop-cut.left) c.loop-cut.invariant.stands c.in_err-told.field-0.0 c.in_err-told.ensures.fault)
