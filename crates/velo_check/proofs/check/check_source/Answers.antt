use Rattle.std.proofs.Common.{◌∙◌, refl, sym}
use Rattle.velo_check.specs.Writing.{writing}
use Rattle.velo_check.proofs.OnChecks.{checked_by, failures_so, faulty, reads_nothing}
use Rattle.velo_check.proofs.check.check_source.Goals as goal

pub returns-in-Ok-clause-answer : goal.returns-in-Ok-clause-answer
returns-in-Ok-clause-answer g c =
    checked_by c.args.names.now c.args.limits.events c.args.limits.nodes c.args.certificate _ c.in-Ok.closed (writing g.O.Sink.contents g.O.Sink.failures c.args.sink.now c.finish.new.sink) c.finish.result c.in-Ok.ensures.ok c.finish.ensures

pub returns-in-Ok-clause-read : goal.returns-in-Ok-clause-read
returns-in-Ok-clause-read g c =
    c.in-Ok.ensures.read ∙ sym (reads_nothing c.args.names.now c.args.certificate c.in-Ok.closed (writing g.O.Sink.contents g.O.Sink.failures c.args.sink.now c.finish.new.sink) c.finish.result _ c.finish.ensures)

pub returns-in-Err-clause-answer : goal.returns-in-Err-clause-answer
returns-in-Err-clause-answer g c =
    faulty c.args.names.now c.args.limits.events c.args.limits.nodes c.args.certificate _ (writing g.O.Sink.contents g.O.Sink.failures c.args.sink.now c.args.sink.now) c.in-Err.fault c.in-Err.ensures.err (refl, refl)

pub returns-in-Err-clause-read : goal.returns-in-Err-clause-read
returns-in-Err-clause-read g c = failures_so c.args.limits.events c.args.limits.nodes _ c.in-Err.fault _ _ c.in-Err.ensures.err c.in-Err.ensures.failure
