use Rattle.std.proofs.Common.{◌++◌, List, ℕ, subst}
use Rattle.std.specs.Prelude.{OnOk, OnErr}
use Rattle.velo_bytes.specs.Device.{AppendsBeginning}
use Rattle.velo_report.specs.Lines.{Buffers}
use Rattle.velo_report.proofs.OnLines.{spaced-taken}
use Rattle.velo_report.proofs.lines.Lines.add_number.Goals as goal

pub returns-clause-ok : goal.returns-clause-ok
returns-clause-ok g c =
    let contents = g.S.Sink.contents in
    let text = c.write_spaced-start.new.text in
    subst (λ (t : List ℕ). OnOk c.add.result (Buffers (contents c.args.sink.now) (contents c.add.new.sink) c.args.self.now c.add.new.self t))
    (spaced-taken c.args.number c.write_spaced-start.result text c.write_spaced-start.ensures.all c.write_spaced-start.ensures.written) c.add.ensures.ok

pub returns-clause-err : goal.returns-clause-err
returns-clause-err g c =
    let contents = g.S.Sink.contents in
    let text = c.write_spaced-start.new.text in
    subst (λ (t : List ℕ). OnErr c.add.result (AppendsBeginning (contents c.args.sink.now) (contents c.add.new.sink) (c.args.self.now ++ t)))
    (spaced-taken c.args.number c.write_spaced-start.result text c.write_spaced-start.ensures.all c.write_spaced-start.ensures.written) c.add.ensures.err
