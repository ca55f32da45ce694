use Rattle.std.proofs.Common.{◌≡◌, ◌∙◌, ap, List, ℕ, take, drop}
use Rattle.std.specs.List.{position_or_len}
use Rattle.velo_workload.specs.Words.{ends_word}
use Rattle.velo_workload.proofs.OnWords.{front, next_is, next_later}
use Rattle.velo_workload.proofs.words.next_word.Goals as goal

-- where the front is cut behind the word
word_cut : (bs f xs : List ℕ) (n : ℕ) → f ≡ front bs → n ≡ position_or_len ends_word f → xs ≡ take n f → xs ≡ take (position_or_len ends_word (front bs)) (front bs)
word_cut bs f xs n f-is n-is e = e ∙ ap (λ (n : ℕ). take n f) n-is ∙ ap (λ (f : List ℕ). take (position_or_len ends_word f) f) f-is

rest_cut : (bs f xs : List ℕ) (n : ℕ) → f ≡ front bs → n ≡ position_or_len ends_word f → xs ≡ drop n f → xs ≡ drop (position_or_len ends_word (front bs)) (front bs)
rest_cut bs f xs n f-is n-is e = e ∙ ap (λ (n : ℕ). drop n f) n-is ∙ ap (λ (f : List ℕ). drop (position_or_len ends_word f) f) f-is

pub returns-clause-some : goal.returns-clause-some
returns-clause-some c =
    let bs = c.args.bytes.now in
    let f-is = c.split_at.ensures.back ∙ ap (λ n. drop n bs) c.blanks_end-start.ensures.value in
    let word-is = word_cut bs c.split_at.result.1.now c.split_at-2.result.0.now c.word_end-end.result f-is c.word_end-end.ensures.value c.split_at-2.ensures.front in
    let rest-is = rest_cut bs c.split_at.result.1.now c.split_at-2.result.1.now c.word_end-end.result f-is c.word_end-end.ensures.value c.split_at-2.ensures.back in
    (next_is bs c.split_at-2.result.0.now c.split_at-2.result.1.now word-is rest-is).some

pub returns-clause-none : goal.returns-clause-none
returns-clause-none c =
    let bs = c.args.bytes.now in
    let f-is = c.split_at.ensures.back ∙ ap (λ n. drop n bs) c.blanks_end-start.ensures.value in
    let word-is = word_cut bs c.split_at.result.1.now c.split_at-2.result.0.now c.word_end-end.result f-is c.word_end-end.ensures.value c.split_at-2.ensures.front in
    let rest-is = rest_cut bs c.split_at.result.1.now c.split_at-2.result.1.now c.word_end-end.result f-is c.word_end-end.ensures.value c.split_at-2.ensures.back in
    (next_is bs c.split_at-2.result.0.now c.split_at-2.result.1.now word-is rest-is).none

pub returns-clause-ended : goal.returns-clause-ended
returns-clause-ended c =
    let bs = c.args.bytes.now in
    let f-is = c.split_at.ensures.back ∙ ap (λ n. drop n bs) c.blanks_end-start.ensures.value in
    let word-is = word_cut bs c.split_at.result.1.now c.split_at-2.result.0.now c.word_end-end.result f-is c.word_end-end.ensures.value c.split_at-2.ensures.front in
    let rest-is = rest_cut bs c.split_at.result.1.now c.split_at-2.result.1.now c.word_end-end.result f-is c.word_end-end.ensures.value c.split_at-2.ensures.back in
    (next_is bs c.split_at-2.result.0.now c.split_at-2.result.1.now word-is rest-is).ended

pub returns-clause-later : goal.returns-clause-later
returns-clause-later c =
    let bs = c.args.bytes.now in
    let f-is = c.split_at.ensures.back ∙ ap (λ n. drop n bs) c.blanks_end-start.ensures.value in
    next_later bs c.split_at-2.result.1.now (rest_cut bs c.split_at.result.1.now c.split_at-2.result.1.now c.word_end-end.result f-is c.word_end-end.ensures.value c.split_at-2.ensures.back)
