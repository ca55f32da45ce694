use Rattle.std.proofs.Common.{refl}
use Rattle.velo_check.specs.Writing.{writing}
use Rattle.velo_check.proofs.answer.save_one.Goals as goal

pub returns-in-Ok : goal.returns-in-Ok
returns-in-Ok g c =
    let file = writing g.F.Output.Sink.contents g.F.Output.Sink.failures c.in-Some-create.file c.write_to-written.new.sink in
    rw c.in-Some.is (file, (c.in-Some-create.ensures.some, c.close.ensures), c.in-Ok.ensures)

pub returns-in-Err : goal.returns-in-Err
returns-in-Err g c =
    let file = writing g.F.Output.Sink.contents g.F.Output.Sink.failures c.in-Some-create.file c.write_to-written.new.sink in
    rw c.in-Some.is (refl, (file, (c.in-Some-create.ensures.some, c.close.ensures), c.in-Err.ensures))
