use Rattle.std.proofs.Common.{Bool, sym, subst}
use Rattle.velo_check.specs.Writing.{writing}
use Rattle.velo_check.specs.Steps.{Shows}
use Rattle.velo_check.proofs.check.write_answer.Goals as goal

pub returns-then-not-certificate : goal.returns-then-not-certificate
returns-then-not-certificate g c =
    subst (λ (b : Bool). Shows c.args.names.now b c.args.closed.now (writing g.O.Sink.contents g.O.Sink.failures c.args.sink.now c.show.new.sink) c.show.result) (sym c.if-not-certificate.true) c.show.ensures
