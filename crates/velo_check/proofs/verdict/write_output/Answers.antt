use Rattle.velo_check.specs.Writing.{writing}
use Rattle.velo_check.proofs.OnVerdicts.{Certifies-order_or_cycle, behind_report, report_alone, report_breaks}
use Rattle.velo_check.proofs.verdict.write_output.Goals as goal

pub returns-in-Err : goal.returns-in-Err
returns-in-Err g c =
    report_breaks c.args.names.now c.args.closed.now c.args.list c.requires (writing g.O.Sink.contents g.O.Sink.failures c.args.sink.now c.report.new.sink) c.in-Err.ensures.err c.in-Err.ensures.failure

pub certificate_lines-requires : goal.certificate_lines-requires
certificate_lines-requires g c = Certifies-order_or_cycle c.args.closed.now.log c.in-Some.list.now (rw c.in-Some.is at c.requires)

pub returns-in-Some : goal.returns-in-Some
returns-in-Some g c =
    rw c.in-Some.is
    (behind_report c.args.names.now c.args.closed.now c.in-Some.list.now (rw c.in-Some.is at c.requires) (writing g.O.Sink.contents g.O.Sink.failures c.args.sink.now c.certificate_lines.new.sink) _ _
    c.in-Ok.ensures.ok c.in-Ok.ensures.no_failure c.certificate_lines.result c.certificate_lines.ensures.ok c.certificate_lines.ensures.err c.certificate_lines.ensures.no_failure c.certificate_lines.ensures.failure)

pub returns-in-None : goal.returns-in-None
returns-in-None g c =
    rw c.in-None.is
    (report_alone c.args.names.now c.args.closed.now (writing g.O.Sink.contents g.O.Sink.failures c.args.sink.now c.report.new.sink) c.in-Ok.ensures.ok c.in-Ok.ensures.no_failure)
