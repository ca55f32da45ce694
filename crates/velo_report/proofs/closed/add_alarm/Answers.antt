use Rattle.std.proofs.Common.{List, ◌∷◌, [], ◌++◌, refl, subst}
use Rattle.std.specs.Prelude.{codes, decimal, OnOk, OnErr}
use Rattle.velo_traces.specs.declared.block.Block.{Block}
use Rattle.velo_bytes.specs.Device.{AppendsBeginning}
use Rattle.std.proofs.lemmas.Result.{on_ok_weaker, on_err_weaker, err_from_is_err_and}
use Rattle.velo_report.specs.Lines.{line_of, Buffers}
use Rattle.velo_report.specs.Report.{blame_lines}
use Rattle.velo_report.proofs.OnBuffering.{buffers-then, buffers-failed, first-failed, last-failed}
use Rattle.velo_report.proofs.closed.add_alarm.Goals as goal

pub returns-in_err-add_line-clause-err : goal.returns-in_err-add_line-clause-err
returns-in_err-add_line-clause-err g c =
    let alarm = c.args.alarm.now in
    let verdict = line_of (codes "verdict") (codes "alarm" ∷ decimal alarm.position ∷ []) in
    let rest = line_of (codes "transaction") (decimal alarm.transaction ∷ []) ++ blame_lines c.args.names.now alarm.blamed.items in
    let p = err_from_is_err_and c.from_residual.result c.from_residual.ensures.1 in
    rw p.1 (first-failed _ _ _ verdict rest _ c.in_err-add_line.ensures.err refl)

pub returns-in_err-add_line-2-clause-err : goal.returns-in_err-add_line-2-clause-err
returns-in_err-add_line-2-clause-err g c =
    let alarm = c.args.alarm.now in
    let verdict = line_of (codes "verdict") (codes "alarm" ∷ decimal alarm.position ∷ []) in
    let transaction = line_of (codes "transaction") (decimal alarm.transaction ∷ []) in
    let blame = blame_lines c.args.names.now alarm.blamed.items in
    let p = err_from_is_err_and c.from_residual-in_err-add_line-2.result c.from_residual-in_err-add_line-2.ensures.1 in
    rw p.1 (buffers-failed _ _ _ _ _ verdict transaction blame _ c.in_ok-add_line.ensures.ok c.in_err-add_line-2.ensures.err refl)

pub returns-clause-ok : goal.returns-clause-ok
returns-clause-ok g c =
    let alarm = c.args.alarm.now in let contents = g.S.Sink.contents in
    let verdict = line_of (codes "verdict") (codes "alarm" ∷ decimal alarm.position ∷ []) in
    let transaction = line_of (codes "transaction") (decimal alarm.transaction ∷ []) in
    let blame = blame_lines c.args.names.now c.as_slice.result.now in
    subst (λ (blocks : List Block). OnOk c.add_blame.result (Buffers (contents c.args.sink.now) (contents c.add_blame.new.sink) c.args.lines.now c.add_blame.new.lines (verdict ++ (transaction ++ blame_lines c.args.names.now blocks)))) c.as_slice.ensures
    (on_ok_weaker c.add_blame.result
    (λ p. buffers-then _ _ _ _ _ _ verdict (transaction ++ blame) c.in_ok-add_line.ensures.ok (buffers-then _ _ _ _ _ _ transaction blame c.in_ok-add_line-2.ensures.ok p))
    c.add_blame.ensures.ok)

pub returns-clause-err : goal.returns-clause-err
returns-clause-err g c =
    let alarm = c.args.alarm.now in let contents = g.S.Sink.contents in
    let verdict = line_of (codes "verdict") (codes "alarm" ∷ decimal alarm.position ∷ []) in
    let transaction = line_of (codes "transaction") (decimal alarm.transaction ∷ []) in
    let blame = blame_lines c.args.names.now c.as_slice.result.now in
    subst (λ (blocks : List Block). OnErr c.add_blame.result (AppendsBeginning (contents c.args.sink.now) (contents c.add_blame.new.sink) (c.args.lines.now ++ (verdict ++ (transaction ++ blame_lines c.args.names.now blocks))))) c.as_slice.ensures
    (on_err_weaker c.add_blame.result
    (λ p. last-failed _ _ _ _ _ verdict (transaction ++ blame) c.in_ok-add_line.ensures.ok (last-failed _ _ _ _ _ transaction blame c.in_ok-add_line-2.ensures.ok p))
    c.add_blame.ensures.err)
