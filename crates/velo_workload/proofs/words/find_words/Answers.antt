use Rattle.velo_workload.specs.Words.{content}
use Rattle.velo_workload.proofs.OnWords.{IsNext, three_words}
use Rattle.velo_workload.proofs.words.find_words.Goals as goal

pub returns-clause-words : goal.returns-clause-words
returns-clause-words c =
    let n1 : IsNext (content c.args.bytes.now) c.next_word.result.0.now (content c.next_word.result.1.now) = record { some = c.next_word.ensures.some; none = c.next_word.ensures.none; ended = c.next_word.ensures.ended } in
    let n2 : IsNext (content c.next_word.result.1.now) c.next_word-2.result.0.now (content c.next_word-2.result.1.now) = record { some = c.next_word-2.ensures.some; none = c.next_word-2.ensures.none; ended = c.next_word-2.ensures.ended } in
    let n3 : IsNext (content c.next_word-2.result.1.now) c.next_word-3.result.0.now (content c.next_word-3.result.1.now) = record { some = c.next_word-3.ensures.some; none = c.next_word-3.ensures.none; ended = c.next_word-3.ensures.ended } in
    let whole = three_words _ _ _ _ _ _ _ n1 n2 n3 in
    rw c.is_empty.ensures whole
