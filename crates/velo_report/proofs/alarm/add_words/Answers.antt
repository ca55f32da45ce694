use Rattle.std.proofs.Common.{◌≡◌, ◌+◌, List, ◌∷◌, [], ◌++◌, take, drop, get_or, ℕ, sym, ap, subst, ◌∙◌, append_assoc}
use Rattle.std.proofs.lemmas.List.{take_more, take-append-drop}
use Rattle.std.proofs.lemmas.Result.{err_from_is_err_and}
use Rattle.velo_report.specs.Lines.{Buffers, spaced, word_text}
use Rattle.velo_report.proofs.OnLines.{no_word, begun-next, spaced_words, spaced_words-append}
use Rattle.velo_report.proofs.OnBuffering.{buffers-then, buffers-failed}
use Rattle.velo_report.proofs.alarm.add_words.Goals as goal

pub loop-word-preserved : goal.loop-word-preserved
loop-word-preserved g c =
    let contents = g.S.Sink.contents in
    let words = c.args.words.now in let i = c.loop-word.word-index in
    let word = get_or words i no_word in
    let none : List ℕ = [] in
    let more : take (i + 1) words ≡ take i words ++ word ∷ [] = take_more words i no_word c.loop-word-test.true in
    record {
      buffers = subst (Buffers (contents c.args.sink.now) (contents c.add_spaced.new.sink) c.args.lines.now c.add_spaced.new.self) (begun-next word_text none words i word more)
          (buffers-then _ _ _ _ _ _ (spaced_words word_text (take i words)) (spaced (word_text word)) c.loop-word.invariant.buffers c.in_ok-add_spaced.ensures.ok);
      failures = c.in_ok-add_spaced.ensures.no_failure ∙ c.loop-word.invariant.failures;
    }

pub returns-in_err-add_spaced-clause-err : goal.returns-in_err-add_spaced-clause-err
returns-in_err-add_spaced-clause-err g c =
    let words = c.args.words.now in let i = c.loop-word.word-index in
    let word = get_or words i no_word in
    let none : List ℕ = [] in
    let more : take (i + 1) words ≡ take i words ++ word ∷ [] = take_more words i no_word c.loop-word-test.true in
    let rest = spaced_words word_text (drop (i + 1) words) in
    let split : spaced_words word_text words ≡ spaced_words word_text (take i words) ++ (spaced (word_text word) ++ rest) =
    ap (spaced_words word_text) (sym (take-append-drop (i + 1) words)) ∙ spaced_words-append word_text (take (i + 1) words) (drop (i + 1) words)
    ∙ ap (λ (t : List ℕ). t ++ rest) (sym (begun-next word_text none words i word more)) ∙ append_assoc (spaced_words word_text (take i words)) (spaced (word_text word)) rest in
    let p = err_from_is_err_and c.from_residual.result c.from_residual.ensures.1 in
    rw p.1 (buffers-failed _ _ _ _ _ (spaced_words word_text (take i words)) (spaced (word_text word)) rest _ c.loop-word.invariant.buffers c.in_err-add_spaced.ensures.err split)
