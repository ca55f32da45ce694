use Rattle.std.proofs.Common.{◌≡◌, ◌+◌, List, ◌∷◌, [], ◌++◌, take, get_or, ℕ, sym, ap, subst, ◌∙◌, arith}
use Rattle.std.specs.Prelude.{codes}
use Rattle.std.proofs.lemmas.List.{take_more, take_all}
use Rattle.std.proofs.lemmas.Result.{on_ok_weaker, on_err_weaker, err_from_is_err_and}
use Rattle.velo_bytes.specs.Device.{AppendsBeginning}
use Rattle.velo_report.specs.Lines.{Buffers, spaced, word_text}
use Rattle.velo_report.proofs.OnLines.{no_word, begun, begun-start, begun-next, line-split, line-split-next, line-end, rest_of}
use Rattle.velo_report.proofs.OnBuffering.{buffers-then, buffers-failed, first-failed, last-failed}
use Rattle.velo_report.proofs.lines.Lines.add_line.Goals as goal

pub returns-in_err-add_word-clause-err : goal.returns-in_err-add_word-clause-err
returns-in_err-add_word-clause-err g c =
    let first = c.args.first.now in let words = c.args.others.now in
    let p = err_from_is_err_and c.from_residual.result c.from_residual.ensures.1 in
    rw p.1 (first-failed _ _ _ first (rest_of word_text words 0) _ c.in_err-add_word.ensures.err (line-split word_text first words 0 ∙ ap (λ (t : List ℕ). t ++ rest_of word_text words 0) (sym (begun-start word_text first words))))

pub loop-word-preserved : goal.loop-word-preserved
loop-word-preserved g c =
    let contents = g.S.Sink.contents in
    let first = c.args.first.now in let words = c.args.others.now in let i = c.loop-word.word-index in
    let word = get_or words i no_word in
    let more : take (i + 1) words ≡ take i words ++ word ∷ [] = take_more words i no_word c.loop-word-test.true in
    record {
      buffers = subst (Buffers (contents c.args.sink.now) (contents c.add_spaced.new.sink) c.args.self.now c.add_spaced.new.self) (begun-next word_text first words i word more)
          (buffers-then _ _ _ _ _ _ (begun word_text first words i) (spaced (word_text word)) c.loop-word.invariant.buffers c.in_ok-add_spaced.ensures.ok);
      failures = c.in_ok-add_spaced.ensures.no_failure ∙ c.loop-word.invariant.failures;
    }

pub returns-in_err-add_spaced-clause-err : goal.returns-in_err-add_spaced-clause-err
returns-in_err-add_spaced-clause-err g c =
    let first = c.args.first.now in let words = c.args.others.now in let i = c.loop-word.word-index in
    let word = get_or words i no_word in
    let more : take (i + 1) words ≡ take i words ++ word ∷ [] = take_more words i no_word c.loop-word-test.true in
    let p = err_from_is_err_and c.from_residual-in_err-add_spaced.result c.from_residual-in_err-add_spaced.ensures.1 in
    rw p.1 (buffers-failed _ _ _ _ _ (begun word_text first words i) (spaced (word_text word)) (rest_of word_text words (i + 1)) _ c.loop-word.invariant.buffers c.in_err-add_spaced.ensures.err (line-split-next word_text first words i word more))

pub returns-clause-ok : goal.returns-clause-ok
returns-clause-ok g c =
    let contents = g.S.Sink.contents in
    let first = c.args.first.now in let words = c.args.others.now in let i = c.loop-word.word-index in
    let all : take i words ≡ words = take_all i words (omega arith) in
    on_ok_weaker c.add.result
    (λ (p : Buffers (contents c.loop-word.sink) (contents c.add.new.sink) c.loop-word.self c.add.new.self (codes "\n")).
    subst (Buffers (contents c.args.sink.now) (contents c.add.new.sink) c.args.self.now c.add.new.self) (sym (line-end word_text first words i all))
    (buffers-then _ _ _ _ _ _ (begun word_text first words i) (codes "\n") c.loop-word.invariant.buffers p))
    c.add.ensures.ok

pub returns-clause-err : goal.returns-clause-err
returns-clause-err g c =
    let contents = g.S.Sink.contents in
    let first = c.args.first.now in let words = c.args.others.now in let i = c.loop-word.word-index in
    let all : take i words ≡ words = take_all i words (omega arith) in
    on_err_weaker c.add.result
    (λ (p : AppendsBeginning (contents c.loop-word.sink) (contents c.add.new.sink) (c.loop-word.self ++ codes "\n")).
    subst (λ (t : List ℕ). AppendsBeginning (contents c.args.sink.now) (contents c.add.new.sink) (c.args.self.now ++ t)) (sym (line-end word_text first words i all))
    (last-failed _ _ _ _ _ (begun word_text first words i) (codes "\n") c.loop-word.invariant.buffers p))
    c.add.ensures.err
