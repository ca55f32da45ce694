use Rattle.std.proofs.lemmas.Result.{on_ok_weaker, on_err_weaker, err_from_is_err_and}
use Rattle.velo_report.proofs.OnCertificates.{whole_certificate, part_of_certificate}
use Rattle.velo_report.proofs.OnBuffering.{buffers-flushed, flush-failed}
use Rattle.velo_report.proofs.certificate.certificate_lines.Goals as goal

pub returns-in_err-add_certificate-clause-err : goal.returns-in_err-add_certificate-clause-err
returns-in_err-add_certificate-clause-err g c =
    let p = err_from_is_err_and c.from_residual.result c.from_residual.ensures.1 in
    rw p.1 (part_of_certificate _ _ _ _ _ c.new-lines.ensures c.in_err-add_certificate.ensures.err)

pub returns-clause-ok : goal.returns-clause-ok
returns-clause-ok g c =
    let m = c.in_ok-add_certificate.ensures.ok in
    on_ok_weaker c.flush.result (λ p. whole_certificate _ _ _ _ _ m.text c.new-lines.ensures m.is_certificate (buffers-flushed _ _ _ _ _ m.text m.buffers p)) c.flush.ensures.ok

pub returns-clause-err : goal.returns-clause-err
returns-clause-err g c =
    let m = c.in_ok-add_certificate.ensures.ok in
    on_err_weaker c.flush.result (λ p. part_of_certificate _ _ _ _ _ c.new-lines.ensures (record { text = m.text; is_certificate = m.is_certificate; appends = flush-failed _ _ _ _ _ m.text m.buffers p })) c.flush.ensures.err
