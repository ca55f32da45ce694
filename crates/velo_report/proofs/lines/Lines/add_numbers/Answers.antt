use Rattle.std.proofs.Common.{◌≡◌, ◌+◌, List, ◌∷◌, [], ◌++◌, take, get_or, ℕ, sym, ap, subst, ◌∙◌, arith}
use Rattle.std.specs.Prelude.{codes, decimal}
use Rattle.std.proofs.lemmas.List.{take_more, take_all}
use Rattle.std.proofs.lemmas.Result.{on_ok_weaker, on_err_weaker, err_from_is_err_and}
use Rattle.velo_bytes.specs.Device.{AppendsBeginning}
use Rattle.velo_report.specs.Lines.{Buffers, spaced}
use Rattle.velo_report.proofs.OnLines.{begun, begun-start, begun-next, line-split, line-split-next, line-end, rest_of}
use Rattle.velo_report.proofs.OnBuffering.{buffers-then, buffers-failed, first-failed, last-failed}
use Rattle.velo_report.proofs.lines.Lines.add_numbers.Goals as goal

pub returns-in_err-add_word-clause-err : goal.returns-in_err-add_word-clause-err
returns-in_err-add_word-clause-err g c =
    let first = c.args.first.now in let words = c.args.numbers.now in
    let p = err_from_is_err_and c.from_residual.result c.from_residual.ensures.1 in
    rw p.1 (first-failed _ _ _ first (rest_of decimal words 0) _ c.in_err-add_word.ensures.err (line-split decimal first words 0 ∙ ap (λ (t : List ℕ). t ++ rest_of decimal words 0) (sym (begun-start decimal first words))))

pub loop-number-preserved : goal.loop-number-preserved
loop-number-preserved g c =
    let contents = g.S.Sink.contents in
    let first = c.args.first.now in let words = c.args.numbers.now in let i = c.loop-number.number-index in
    let word = get_or words i 0 in
    let more : take (i + 1) words ≡ take i words ++ word ∷ [] = take_more words i 0 c.loop-number-test.true in
    record {
      buffers = subst (Buffers (contents c.args.sink.now) (contents c.add_number.new.sink) c.args.self.now c.add_number.new.self) (begun-next decimal first words i word more)
          (buffers-then _ _ _ _ _ _ (begun decimal first words i) (spaced (decimal word)) c.loop-number.invariant.buffers c.in_ok-add_number.ensures.ok);
      failures = c.in_ok-add_number.ensures.no_failure ∙ c.loop-number.invariant.failures;
    }

pub returns-in_err-add_number-clause-err : goal.returns-in_err-add_number-clause-err
returns-in_err-add_number-clause-err g c =
    let first = c.args.first.now in let words = c.args.numbers.now in let i = c.loop-number.number-index in
    let word = get_or words i 0 in
    let more : take (i + 1) words ≡ take i words ++ word ∷ [] = take_more words i 0 c.loop-number-test.true in
    let p = err_from_is_err_and c.from_residual-in_err-add_number.result c.from_residual-in_err-add_number.ensures.1 in
    rw p.1 (buffers-failed _ _ _ _ _ (begun decimal first words i) (spaced (decimal word)) (rest_of decimal words (i + 1)) _ c.loop-number.invariant.buffers c.in_err-add_number.ensures.err (line-split-next decimal first words i word more))

pub returns-clause-ok : goal.returns-clause-ok
returns-clause-ok g c =
    let contents = g.S.Sink.contents in
    let first = c.args.first.now in let words = c.args.numbers.now in let i = c.loop-number.number-index in
    let all : take i words ≡ words = take_all i words (omega arith) in
    on_ok_weaker c.add.result
    (λ (p : Buffers (contents c.loop-number.sink) (contents c.add.new.sink) c.loop-number.self c.add.new.self (codes "\n")).
    subst (Buffers (contents c.args.sink.now) (contents c.add.new.sink) c.args.self.now c.add.new.self) (sym (line-end decimal first words i all))
    (buffers-then _ _ _ _ _ _ (begun decimal first words i) (codes "\n") c.loop-number.invariant.buffers p))
    c.add.ensures.ok

pub returns-clause-err : goal.returns-clause-err
returns-clause-err g c =
    let contents = g.S.Sink.contents in
    let first = c.args.first.now in let words = c.args.numbers.now in let i = c.loop-number.number-index in
    let all : take i words ≡ words = take_all i words (omega arith) in
    on_err_weaker c.add.result
    (λ (p : AppendsBeginning (contents c.loop-number.sink) (contents c.add.new.sink) (c.loop-number.self ++ codes "\n")).
    subst (λ (t : List ℕ). AppendsBeginning (contents c.args.sink.now) (contents c.add.new.sink) (c.args.self.now ++ t)) (sym (line-end decimal first words i all))
    (last-failed _ _ _ _ _ (begun decimal first words i) (codes "\n") c.loop-number.invariant.buffers p))
    c.add.ensures.err
