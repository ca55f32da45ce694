use Rattle.std.proofs.Common.{[], ◌∷◌, refl}
use Rattle.std.proofs.lemmas.Result.{on_ok_weaker, on_err_weaker, err_from_is_err_and}
use Rattle.velo_report.specs.Lines.{word_text}
use Rattle.velo_report.proofs.OnBuffering.{buffers-then, first-failed, last-failed}
use Rattle.velo_report.proofs.lines.Lines.add_spaced.Goals as goal

pub returns-in_err-add-clause-err : goal.returns-in_err-add-clause-err
returns-in_err-add-clause-err g c =
    let p = err_from_is_err_and c.from_residual.result c.from_residual.ensures.1 in
    rw p.1 (first-failed _ _ _ (32 ∷ []) (word_text c.args.word) _ c.in_err-add.ensures.err refl)

pub returns-clause-ok : goal.returns-clause-ok
returns-clause-ok g c = on_ok_weaker c.add_word.result (buffers-then _ _ _ _ _ _ (32 ∷ []) (word_text c.args.word) c.in_ok-add.ensures.ok) c.add_word.ensures.ok

pub returns-clause-err : goal.returns-clause-err
returns-clause-err g c = on_err_weaker c.add_word.result (last-failed _ _ _ _ _ (32 ∷ []) (word_text c.args.word) c.in_ok-add.ensures.ok) c.add_word.ensures.err
