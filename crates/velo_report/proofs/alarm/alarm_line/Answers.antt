use Rattle.std.proofs.Common.{List, ℕ, ◌++◌, refl, subst}
use Rattle.std.specs.Prelude.{codes, decimal, OnOk, OnErr}
use Rattle.std.specs.Io.KnownBytes.{Appends}
use Rattle.std.proofs.lemmas.Result.{on_ok_weaker, on_err_weaker, err_from_is_err_and}
use Rattle.velo_traces.specs.declared.block.Block.{Block}
use Rattle.velo_bytes.specs.Device.{AppendsBeginning}
use Rattle.velo_report.specs.Alarm.{blame_texts}
use Rattle.velo_report.specs.Lines.{spaced}
use Rattle.velo_report.proofs.OnBuffering.{buffers-then, buffers-flushed, buffers-failed, first-failed, last-failed, flush-failed}
use Rattle.velo_report.proofs.alarm.alarm_line.Goals as goal

pub returns-in_err-add_word-clause-err : goal.returns-in_err-add_word-clause-err
returns-in_err-add_word-clause-err g c =
    let alarm = c.args.alarm.now in let contents = g.S.Sink.contents in
    let first = codes "alarm" in let position = spaced (decimal alarm.position) in let blame = blame_texts alarm.blamed.items in
    let text = first ++ (position ++ (blame ++ codes "\n")) in
    let p = err_from_is_err_and c.from_residual.result c.from_residual.ensures.1 in
    rw p.1 (subst (λ (t : List ℕ). AppendsBeginning (contents c.args.sink.now) (contents c.add_word.new.sink) (t ++ text)) c.new-lines.ensures
    (first-failed _ _ _ first (position ++ (blame ++ codes "\n")) _ c.in_err-add_word.ensures.err refl))

pub returns-in_err-add_spaced-clause-err : goal.returns-in_err-add_spaced-clause-err
returns-in_err-add_spaced-clause-err g c =
    let alarm = c.args.alarm.now in let contents = g.S.Sink.contents in
    let first = codes "alarm" in let position = spaced (decimal alarm.position) in let blame = blame_texts alarm.blamed.items in
    let text = first ++ (position ++ (blame ++ codes "\n")) in
    let p = err_from_is_err_and c.from_residual-in_err-add_spaced.result c.from_residual-in_err-add_spaced.ensures.1 in
    rw p.1 (subst (λ (t : List ℕ). AppendsBeginning (contents c.args.sink.now) (contents c.add_spaced.new.sink) (t ++ text)) c.new-lines.ensures
    (buffers-failed _ _ _ _ _ first position (blame ++ codes "\n") _ c.in_ok-add_word.ensures.ok c.in_err-add_spaced.ensures.err refl))

pub returns-in_err-add_all_blamed-clause-err : goal.returns-in_err-add_all_blamed-clause-err
returns-in_err-add_all_blamed-clause-err g c =
    let alarm = c.args.alarm.now in let contents = g.S.Sink.contents in
    let first = codes "alarm" in let position = spaced (decimal alarm.position) in let blame = blame_texts c.as_slice.result.now in
    let p = err_from_is_err_and c.from_residual-in_err-add_all_blamed.result c.from_residual-in_err-add_all_blamed.ensures.1 in
    rw p.1 (subst (λ (blocks : List Block). AppendsBeginning (contents c.args.sink.now) (contents c.add_all_blamed.new.sink) (first ++ (position ++ (blame_texts blocks ++ codes "\n")))) c.as_slice.ensures
    (subst (λ (t : List ℕ). AppendsBeginning (contents c.args.sink.now) (contents c.add_all_blamed.new.sink) (t ++ (first ++ (position ++ (blame ++ codes "\n"))))) c.new-lines.ensures
    (last-failed _ _ _ _ _ first (position ++ (blame ++ codes "\n")) c.in_ok-add_word.ensures.ok
    (buffers-failed _ _ _ _ _ position blame (codes "\n") _ c.in_ok-add_spaced.ensures.ok c.in_err-add_all_blamed.ensures.err refl))))

pub returns-in_err-add-clause-err : goal.returns-in_err-add-clause-err
returns-in_err-add-clause-err g c =
    let alarm = c.args.alarm.now in let contents = g.S.Sink.contents in
    let first = codes "alarm" in let position = spaced (decimal alarm.position) in let blame = blame_texts c.as_slice.result.now in
    let p = err_from_is_err_and c.from_residual-in_err-add.result c.from_residual-in_err-add.ensures.1 in
    rw p.1 (subst (λ (blocks : List Block). AppendsBeginning (contents c.args.sink.now) (contents c.add.new.sink) (first ++ (position ++ (blame_texts blocks ++ codes "\n")))) c.as_slice.ensures
    (subst (λ (t : List ℕ). AppendsBeginning (contents c.args.sink.now) (contents c.add.new.sink) (t ++ (first ++ (position ++ (blame ++ codes "\n"))))) c.new-lines.ensures
    (last-failed _ _ _ _ _ first (position ++ (blame ++ codes "\n")) c.in_ok-add_word.ensures.ok
    (last-failed _ _ _ _ _ position (blame ++ codes "\n") c.in_ok-add_spaced.ensures.ok
    (last-failed _ _ _ _ _ blame (codes "\n") c.in_ok-add_all_blamed.ensures.ok c.in_err-add.ensures.err)))))

pub returns-clause-ok : goal.returns-clause-ok
returns-clause-ok g c =
    let alarm = c.args.alarm.now in let contents = g.S.Sink.contents in
    let first = codes "alarm" in let position = spaced (decimal alarm.position) in let blame = blame_texts c.as_slice.result.now in
    let all = buffers-then _ _ _ _ _ _ first (position ++ (blame ++ codes "\n")) c.in_ok-add_word.ensures.ok
    (buffers-then _ _ _ _ _ _ position (blame ++ codes "\n") c.in_ok-add_spaced.ensures.ok
    (buffers-then _ _ _ _ _ _ blame (codes "\n") c.in_ok-add_all_blamed.ensures.ok c.in_ok-add.ensures.ok)) in
    subst (λ (blocks : List Block). OnOk c.flush.result (Appends (contents c.args.sink.now) (contents c.flush.new.sink) (first ++ (position ++ (blame_texts blocks ++ codes "\n"))))) c.as_slice.ensures
    (on_ok_weaker c.flush.result
    (λ p. subst (λ (t : List ℕ). Appends (contents c.args.sink.now) (contents c.flush.new.sink) (t ++ (first ++ (position ++ (blame ++ codes "\n"))))) c.new-lines.ensures
    (buffers-flushed _ _ _ _ _ (first ++ (position ++ (blame ++ codes "\n"))) all p))
    c.flush.ensures.ok)

pub returns-clause-err : goal.returns-clause-err
returns-clause-err g c =
    let alarm = c.args.alarm.now in let contents = g.S.Sink.contents in
    let first = codes "alarm" in let position = spaced (decimal alarm.position) in let blame = blame_texts c.as_slice.result.now in
    let all = buffers-then _ _ _ _ _ _ first (position ++ (blame ++ codes "\n")) c.in_ok-add_word.ensures.ok
    (buffers-then _ _ _ _ _ _ position (blame ++ codes "\n") c.in_ok-add_spaced.ensures.ok
    (buffers-then _ _ _ _ _ _ blame (codes "\n") c.in_ok-add_all_blamed.ensures.ok c.in_ok-add.ensures.ok)) in
    subst (λ (blocks : List Block). OnErr c.flush.result (AppendsBeginning (contents c.args.sink.now) (contents c.flush.new.sink) (first ++ (position ++ (blame_texts blocks ++ codes "\n"))))) c.as_slice.ensures
    (on_err_weaker c.flush.result
    (λ p. subst (λ (t : List ℕ). AppendsBeginning (contents c.args.sink.now) (contents c.flush.new.sink) (t ++ (first ++ (position ++ (blame ++ codes "\n"))))) c.new-lines.ensures
    (flush-failed _ _ _ _ _ (first ++ (position ++ (blame ++ codes "\n"))) all p))
    c.flush.ensures.err)
