use Rattle.std.proofs.Common.{◌∷◌, ap, sym, ◌∙◌}
use Rattle.std.specs.List.{before_first}
use Rattle.velo_workload.specs.Words.{is_newline, pieces}
use Rattle.velo_workload.specs.Phrase.{phrase_of_words}
use Rattle.velo_workload.proofs.OnWords.{content_is, first_line}
use Rattle.velo_workload.proofs.OnPhrases.{phrase_by_words}
use Rattle.velo_workload.proofs.phrase.next_phrase.Goals as goal

pub returns-clause-phrase : goal.returns-clause-phrase
returns-clause-phrase c =
    let bytes = c.args.bytes.now in
    c.read_phrase.ensures ∙ phrase_by_words _ _ _ _ c.find_words-words.ensures.words ∙ ap (λ said. phrase_of_words (pieces said)) (sym (content_is bytes))

pub returns-clause-lines : goal.returns-clause-lines
returns-clause-lines c =
    let bytes = c.args.bytes.now in
    first_line bytes ∙ ap (λ ls. before_first is_newline bytes ∷ ls) (sym (c.after_line-rest.ensures.lines ∙ c.find_words-words.ensures.later))
