use Rattle.std.proofs.Common.{List, sym, ◌∙◌, subst}
use Rattle.std.proofs.lemmas.Result.{on_ok_weaker, on_err_weaker}
use Rattle.velo_events.specs.declared.event.Event.{Event}
use Rattle.velo_events.specs.Reordering.{IsReordering, IsSerial}
use Rattle.velo_events.proofs.OnGraphs.{HasCycle-from_closing}
use Rattle.velo_report.specs.Runs.{AreInside}
use Rattle.velo_report.proofs.OnCertificates.{certifies_order, IsCertificate-cycle}
use Rattle.velo_report.proofs.OnRuns.{AreInside-reordering}
use Rattle.velo_report.proofs.certificate.add_certificate.Goals as goal

pub add_order-requires : goal.add_order-requires
add_order-requires g c =
    let certified = certifies_order c.args.closed.now.log c.args.list.now c.in-None.ensures.none c.requires in
    let same = sym (c.as_slice.ensures ∙ c.log.ensures.events) in
    record {
      reorders = subst (λ (log : List Event). IsReordering log c.args.list.now) same certified.reorders;
      serial = subst (λ (log : List Event). IsSerial log c.args.list.now) same certified.serial;
      inside = subst (λ (log : List Event). AreInside log c.args.list.now) same (AreInside-reordering c.args.closed.now.log c.args.list.now certified.reorders);
    }

pub returns-in-Some-clause-ok : goal.returns-in-Some-clause-ok
returns-in-Some-clause-ok g c =
    let log = c.args.closed.now.log in
    let is = IsCertificate-cycle log c.args.list.now (HasCycle-from_closing log _ c.in-Some.ensures.some.closing) in
    on_ok_weaker c.add_numbers.result (λ p. record { text = _; is_certificate = is; buffers = p }) c.add_numbers.ensures.ok

pub returns-in-Some-clause-err : goal.returns-in-Some-clause-err
returns-in-Some-clause-err g c =
    let log = c.args.closed.now.log in
    let is = IsCertificate-cycle log c.args.list.now (HasCycle-from_closing log _ c.in-Some.ensures.some.closing) in
    on_err_weaker c.add_numbers.result (λ p. record { text = _; is_certificate = is; appends = p }) c.add_numbers.ensures.err
