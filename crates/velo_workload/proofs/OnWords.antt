-- The first word of bytes, and the words behind it.
use Rattle.std.proofs.Common.{◌≡◌, ℕ, ◌<◌, suc, Bool, true, false, ◌||◌, eqb, List, [], ◌∷◌, length, take, drop, filter, refl, sym, ap, subst, ◌∙◌, arith}
use Rattle.std.specs.Prelude.{not}
use Rattle.std.specs.List.{slice_split, onto_first, position_or_len, before_first}
use Rattle.std.proofs.lemmas.Bool.Decides.{nat_tests}
use Rattle.std.proofs.lemmas.List.Splits.{slice_split-cons_yes, slice_split-cons_no}
use Rattle.velo_workload.specs.Words.{AreWords, lines, is_newline, is_hash, is_end, is_word, is_blank, is_no_blank, ends_word, pieces, content, lines_behind, later_lines}

module _ (p : ℕ → Bool) where
  pub found_here : (b : ℕ) (bs : List ℕ) → p b ≡ true → position_or_len p (b ∷ bs) ≡ 0
  found_here b bs e = rw e refl

  pub found_later : (b : ℕ) (bs : List ℕ) → p b ≡ false → position_or_len p (b ∷ bs) ≡ suc (position_or_len p bs)
  found_later b bs e = rw e (omega arith)

-- the first piece ends at the first byte that passes, and what is behind it has the other words
pub record Cut (p : ℕ → Bool) (bs : List ℕ) : Type 0 where
  pub others : List (List ℕ)
  pub first : slice_split p bs ≡ take (position_or_len p bs) bs ∷ others
  pub behind : filter is_word others ≡ filter is_word (slice_split p (drop (position_or_len p bs) bs))

module _ (p : ℕ → Bool) where
  cut_yes : (b : ℕ) (bs : List ℕ) → p b ≡ true → Cut p (b ∷ bs)
  cut_yes b bs e = record {
    others = slice_split p bs;
    first = slice_split-cons_yes p b bs e ∙ ap (λ (n : ℕ). take n (b ∷ bs) ∷ slice_split p bs) (sym (found_here p b bs e));
    behind = ap (filter is_word) (sym (slice_split-cons_yes p b bs e)) ∙ ap (λ (n : ℕ). filter is_word (slice_split p (drop n (b ∷ bs)))) (sym (found_here p b bs e));
  }

  cut_no : (b : ℕ) (bs : List ℕ) → p b ≡ false → Cut p bs → Cut p (b ∷ bs)
  cut_no b bs e h = record {
    others = h.others;
    first = slice_split-cons_no p b bs e ∙ ap (onto_first b) h.first ∙ ap (λ (n : ℕ). take n (b ∷ bs) ∷ h.others) (sym (found_later p b bs e));
    behind = h.behind ∙ ap (λ (n : ℕ). filter is_word (slice_split p (drop n (b ∷ bs)))) (sym (found_later p b bs e));
  }

  pub cut : (bs : List ℕ) → Cut p bs
  cut [] = record { others = []; first = refl; behind = refl }
  cut (b ∷ bs) = by (p b) refl (cut bs)
    where
      by : (v : Bool) → p b ≡ v → Cut p bs → Cut p (b ∷ bs)
      by true e h = cut_yes b bs e
      by false e h = cut_no b bs e h

pub no_bytes : (bs : List ℕ) → length bs ≡ 0 → bs ≡ []
no_bytes [] none = refl
no_bytes (b ∷ bs) none = absurd (omega arith)

-- ---- the first line

pub first_line : (bs : List ℕ) → lines bs ≡ take (position_or_len is_newline bs) bs ∷ lines_behind (drop (position_or_len is_newline bs) bs)
first_line [] = refl
first_line (b ∷ bs) = by (is_newline b) refl (first_line bs)
  where
    by : (v : Bool) → is_newline b ≡ v → lines bs ≡ take (position_or_len is_newline bs) bs ∷ lines_behind (drop (position_or_len is_newline bs) bs) → lines (b ∷ bs) ≡ take (position_or_len is_newline (b ∷ bs)) (b ∷ bs) ∷ lines_behind (drop (position_or_len is_newline (b ∷ bs)) (b ∷ bs))
    by true e h = slice_split-cons_yes is_newline b bs e ∙ ap (λ (n : ℕ). take n (b ∷ bs) ∷ lines_behind (drop n (b ∷ bs))) (sym (found_here is_newline b bs e))
    by false e h = slice_split-cons_no is_newline b bs e ∙ ap (onto_first b) h ∙ ap (λ (n : ℕ). take n (b ∷ bs) ∷ lines_behind (drop n (b ∷ bs))) (sym (found_later is_newline b bs e))

-- ---- the first word

-- what stands behind the blanks at the front
abbrev pub front : List ℕ → List ℕ
front bs = drop (position_or_len is_no_blank bs) bs

-- a blank at the front makes no word
blank_more : (b : ℕ) (bs : List ℕ) → is_blank b ≡ true → (pieces (b ∷ bs) ≡ pieces bs) × (front (b ∷ bs) ≡ front bs)
blank_more b bs e =
    (ap (filter is_word) (slice_split-cons_yes is_blank b bs e), ap (λ (n : ℕ). drop n (b ∷ bs)) (found_later is_no_blank b bs (ap not e)))

no_blank_more : (b : ℕ) (bs : List ℕ) → is_blank b ≡ false → front (b ∷ bs) ≡ b ∷ bs
no_blank_more b bs e = ap (λ (n : ℕ). drop n (b ∷ bs)) (found_here is_no_blank b bs (ap not e))

pub blanks_skipped : (bs : List ℕ) → pieces bs ≡ pieces (front bs)
blanks_skipped [] = refl
blanks_skipped (b ∷ bs) = by (is_blank b) refl (blanks_skipped bs)
  where
    by : (v : Bool) → is_blank b ≡ v → pieces bs ≡ pieces (front bs) → pieces (b ∷ bs) ≡ pieces (front (b ∷ bs))
    by true e h = (blank_more b bs e).0 ∙ h ∙ ap pieces (sym (blank_more b bs e).1)
    by false e h = ap pieces (sym (no_blank_more b bs e))

-- the bytes up to the first blank
abbrev pub first_word : List ℕ → List ℕ
first_word bs = take (position_or_len is_blank bs) bs

kept : (w : List ℕ) (ws : List (List ℕ)) → 0 < length w → filter is_word (w ∷ ws) ≡ w ∷ filter is_word ws
kept [] ws some = absurd (omega arith)
kept (b ∷ bs) ws some = refl

pub some_word : (bs : List ℕ) → 0 < length (first_word (front bs)) → pieces bs ≡ first_word (front bs) ∷ pieces (drop (position_or_len is_blank (front bs)) (front bs))
some_word bs some =
    let c = cut is_blank (front bs) in
    blanks_skipped bs ∙ ap (filter is_word) c.first ∙ kept (first_word (front bs)) c.others some ∙ ap (λ (ws : List (List ℕ)). first_word (front bs) ∷ ws) c.behind

first_some : (b : ℕ) (bs : List ℕ) → is_blank b ≡ false → length (first_word (b ∷ bs)) ≡ 0 → ⊥
first_some b bs e none =
    let there : length (take (suc (position_or_len is_blank bs)) (b ∷ bs)) ≡ 0 = ap (λ (n : ℕ). length (take n (b ∷ bs))) (sym (found_later is_blank b bs e)) ∙ none in
    absurd (omega arith)

pub no_front : (bs : List ℕ) → length (first_word (front bs)) ≡ 0 → front bs ≡ []
no_front [] none = refl
no_front (b ∷ bs) none = by (is_blank b) refl (no_front bs)
  where
    by : (v : Bool) → is_blank b ≡ v → (length (first_word (front bs)) ≡ 0 → front bs ≡ []) → front (b ∷ bs) ≡ []
    by true e h = (blank_more b bs e).1 ∙ h (ap (λ (xs : List ℕ). length (first_word xs)) (sym (blank_more b bs e).1) ∙ none)
    by false e h = absurd (first_some b bs e (ap (λ (xs : List ℕ). length (first_word xs)) (sym (no_blank_more b bs e)) ∙ none))

pub no_word : (bs : List ℕ) → length (first_word (front bs)) ≡ 0 → pieces bs ≡ []
no_word bs none = blanks_skipped bs ∙ ap pieces (no_front bs none)

pub no_rest : (bs : List ℕ) → length (first_word (front bs)) ≡ 0 → pieces (drop (position_or_len is_blank (front bs)) (front bs)) ≡ []
no_rest bs none = ap (λ (f : List ℕ). pieces (drop (position_or_len is_blank f) f)) (no_front bs none)

-- ---- the first word of what a line says

module _ (b : ℕ) (bs : List ℕ) where
  content_none : is_end b ≡ true → content (b ∷ bs) ≡ []
  content_none e = ap (λ (n : ℕ). take n (b ∷ bs)) (found_here is_end b bs e)

  content_more : is_end b ≡ false → content (b ∷ bs) ≡ b ∷ content bs
  content_more e = ap (λ (n : ℕ). take n (b ∷ bs)) (found_later is_end b bs e)

  later_more : is_newline b ≡ false → later_lines (b ∷ bs) ≡ later_lines bs
  later_more e = ap (λ (n : ℕ). lines_behind (drop n (b ∷ bs))) (found_later is_newline b bs e)

  before_more : is_newline b ≡ false → before_first is_newline (b ∷ bs) ≡ b ∷ before_first is_newline bs
  before_more e = ap (λ (n : ℕ). take n (b ∷ bs)) (found_later is_newline b bs e)

  rest_here : ends_word b ≡ true → drop (position_or_len ends_word (b ∷ bs)) (b ∷ bs) ≡ b ∷ bs
  rest_here e = ap (λ (n : ℕ). drop n (b ∷ bs)) (found_here ends_word b bs e)

  word_here : ends_word b ≡ true → take (position_or_len ends_word (b ∷ bs)) (b ∷ bs) ≡ []
  word_here e = ap (λ (n : ℕ). take n (b ∷ bs)) (found_here ends_word b bs e)

  rest_later : ends_word b ≡ false → drop (position_or_len ends_word (b ∷ bs)) (b ∷ bs) ≡ drop (position_or_len ends_word bs) bs
  rest_later e = ap (λ (n : ℕ). drop n (b ∷ bs)) (found_later ends_word b bs e)

  word_later : ends_word b ≡ false → take (position_or_len ends_word (b ∷ bs)) (b ∷ bs) ≡ b ∷ take (position_or_len ends_word bs) bs
  word_later e = ap (λ (n : ℕ). take n (b ∷ bs)) (found_later ends_word b bs e)

blank_no_end : (b : ℕ) → is_blank b ≡ true → is_end b ≡ false
blank_no_end b e = grind (arith, nat_tests)

no_newline : (b : ℕ) → is_end b ≡ false → is_newline b ≡ false
no_newline b e = grind (arith, nat_tests)

-- a line without its comment is what it says
pub content_is : (bs : List ℕ) → before_first is_hash (before_first is_newline bs) ≡ content bs
content_is [] = refl
content_is (b ∷ bs) = by (is_newline b) (is_hash b) refl refl (content_is bs)
  where
    by : (v w : Bool) → is_newline b ≡ v → is_hash b ≡ w → before_first is_hash (before_first is_newline bs) ≡ content bs → before_first is_hash (before_first is_newline (b ∷ bs)) ≡ content (b ∷ bs)
    by true w e f h =
        ap (λ (n : ℕ). before_first is_hash (take n (b ∷ bs))) (found_here is_newline b bs e) ∙ sym (content_none b bs (ap (λ (v : Bool). v || is_hash b) e))
    by false true e f h =
        ap (before_first is_hash) (before_more b bs e) ∙ ap (λ (n : ℕ). take n (b ∷ before_first is_newline bs)) (found_here is_hash b (before_first is_newline bs) f)
        ∙ sym (content_none b bs (ap (λ (v : Bool). v || is_hash b) e ∙ f))
    by false false e f h =
        ap (before_first is_hash) (before_more b bs e) ∙ ap (λ (n : ℕ). take n (b ∷ before_first is_newline bs)) (found_later is_hash b (before_first is_newline bs) f)
        ∙ ap (λ (xs : List ℕ). b ∷ xs) h ∙ sym (content_more b bs (ap (λ (v : Bool). v || is_hash b) e ∙ f))

-- behind the blanks at the front the line says the same
pub record IsBehind (bs : List ℕ) : Type 0 where
  pub same : content (front bs) ≡ front (content bs)
  pub later : later_lines (front bs) ≡ later_lines bs

behind_blanks : (bs : List ℕ) → IsBehind bs
behind_blanks [] = record { same = refl; later = refl }
behind_blanks (b ∷ bs) = by (is_blank b) (is_end b) refl refl (behind_blanks bs)
  where
    by : (v w : Bool) → is_blank b ≡ v → is_end b ≡ w → IsBehind bs → IsBehind (b ∷ bs)
    by true w e f h =
        let g = blank_no_end b e in
        let skipped = (blank_more b bs e).1 in
        record {
          same = ap content skipped ∙ h.same ∙ sym (ap front (content_more b bs g) ∙ (blank_more b (content bs) e).1);
          later = ap later_lines skipped ∙ h.later ∙ sym (later_more b bs (no_newline b g));
        }
    by false true e f h = record {
      same = ap content (no_blank_more b bs e) ∙ content_none b bs f ∙ sym (ap front (content_none b bs f));
      later = ap later_lines (no_blank_more b bs e);
    }
    by false false e f h = record {
      same = ap content (no_blank_more b bs e) ∙ content_more b bs f ∙ sym (ap front (content_more b bs f) ∙ no_blank_more b (content bs) e);
      later = ap later_lines (no_blank_more b bs e);
    }

-- the first word of bytes is that of what the line says, and so is what follows it
pub record IsCutAt (bs : List ℕ) : Type 0 where
  pub word : take (position_or_len ends_word bs) bs ≡ first_word (content bs)
  pub rest : content (drop (position_or_len ends_word bs) bs) ≡ drop (position_or_len is_blank (content bs)) (content bs)
  pub later : later_lines (drop (position_or_len ends_word bs) bs) ≡ later_lines bs

cut_at : (bs : List ℕ) → IsCutAt bs
cut_at [] = record { word = refl; rest = refl; later = refl }
cut_at (b ∷ bs) = by (is_blank b) (is_end b) refl refl (cut_at bs)
  where
    by : (v w : Bool) → is_blank b ≡ v → is_end b ≡ w → IsCutAt bs → IsCutAt (b ∷ bs)
    by true w e f h =
        let ends : ends_word b ≡ true = ap (λ (v : Bool). v || is_end b) e in
        let says = content_more b bs (blank_no_end b e) in
        let here = found_here is_blank b (content bs) e in
        record {
          word = word_here b bs ends ∙ sym (ap (λ (xs : List ℕ). take (position_or_len is_blank xs) xs) says ∙ ap (λ (n : ℕ). take n (b ∷ content bs)) here);
          rest = ap content (rest_here b bs ends) ∙ says ∙ sym (ap (λ (xs : List ℕ). drop (position_or_len is_blank xs) xs) says ∙ ap (λ (n : ℕ). drop n (b ∷ content bs)) here);
          later = ap later_lines (rest_here b bs ends);
        }
    by false true e f h =
        let ends : ends_word b ≡ true = ap (λ (v : Bool). v || is_end b) e ∙ f in
        let says = content_none b bs f in
        record {
          word = word_here b bs ends ∙ sym (ap (λ (xs : List ℕ). take (position_or_len is_blank xs) xs) says);
          rest = ap content (rest_here b bs ends) ∙ says ∙ sym (ap (λ (xs : List ℕ). drop (position_or_len is_blank xs) xs) says);
          later = ap later_lines (rest_here b bs ends);
        }
    by false false e f h =
        let ends : ends_word b ≡ false = ap (λ (v : Bool). v || is_end b) e ∙ f in
        let says = content_more b bs f in
        let later_here = found_later is_blank b (content bs) e in
        record {
          word = word_later b bs ends ∙ ap (λ (xs : List ℕ). b ∷ xs) h.word ∙ sym (ap (λ (xs : List ℕ). take (position_or_len is_blank xs) xs) says ∙ ap (λ (n : ℕ). take n (b ∷ content bs)) later_here);
          rest = ap content (rest_later b bs ends) ∙ h.rest ∙ sym (ap (λ (xs : List ℕ). drop (position_or_len is_blank xs) xs) says ∙ ap (λ (n : ℕ). drop n (b ∷ content bs)) later_here);
          later = ap later_lines (rest_later b bs ends) ∙ h.later ∙ sym (later_more b bs (no_newline b f));
        }

-- ---- the first words of a line

-- what stands in front of the rest is the first word, or nothing where there is none
pub record IsNext (bytes word rest : List ℕ) : Type 0 where
  pub some : 0 < length word → pieces bytes ≡ word ∷ pieces rest
  pub none : length word ≡ 0 → pieces bytes ≡ []
  pub ended : length word ≡ 0 → pieces rest ≡ []

-- the word behind the blanks, and what follows it
pub next_is : (bs word rest : List ℕ) → word ≡ take (position_or_len ends_word (front bs)) (front bs) → rest ≡ drop (position_or_len ends_word (front bs)) (front bs) → IsNext (content bs) word (content rest)
next_is bs word rest word-is rest-is =
    let behind = behind_blanks bs in
    let cut = cut_at (front bs) in
    let w : word ≡ first_word (front (content bs)) = word-is ∙ cut.word ∙ ap first_word behind.same in
    let r : content rest ≡ drop (position_or_len is_blank (front (content bs))) (front (content bs)) = ap content rest-is ∙ cut.rest ∙ ap (λ (xs : List ℕ). drop (position_or_len is_blank xs) xs) behind.same in
    record {
      some = λ some. some_word (content bs) (subst (λ (x : List ℕ). 0 < length x) w some) ∙ (λ i. (sym w) i ∷ pieces ((sym r) i));
      none = λ none. no_word (content bs) (ap length (sym w) ∙ none);
      ended = λ none. ap pieces r ∙ no_rest (content bs) (ap length (sym w) ∙ none);
    }

pub next_later : (bs rest : List ℕ) → rest ≡ drop (position_or_len ends_word (front bs)) (front bs) → later_lines rest ≡ later_lines bs
next_later bs rest rest-is = ap later_lines rest-is ∙ (cut_at (front bs)).later ∙ (behind_blanks bs).later

-- behind the last word there is none
none_more : (bytes word rest : List ℕ) → IsNext bytes word rest → pieces bytes ≡ [] → word ≡ []
none_more bytes [] rest next none = refl
none_more bytes (b ∷ bs) rest next none = absurd (let some = next.some (omega arith) in cc)

pub three_words : (b0 w1 b1 w2 b2 w3 b3 : List ℕ) → IsNext b0 w1 b1 → IsNext b1 w2 b2 → IsNext b2 w3 b3 → AreWords w1 w2 (not (eqb (length w3) 0)) (pieces b0)
three_words b0 [] b1 w2 b2 w3 b3 n1 n2 n3 =
    let w2-is = none_more b1 w2 b2 n2 (n1.ended refl) in
    let w3-is = none_more b2 w3 b3 n3 (n2.ended (ap length w2-is)) in
    subst (AreWords [] w2 (not (eqb (length w3) 0))) (sym (n1.none refl)) (refl, w2-is, ap (λ (w : List ℕ). not (eqb (length w) 0)) w3-is)
three_words b0 (c ∷ cs) b1 [] b2 w3 b3 n1 n2 n3 =
    let w3-is = none_more b2 w3 b3 n3 (n2.ended refl) in
    let first = n1.some (omega arith) ∙ ap (λ (ws : List (List ℕ)). (c ∷ cs) ∷ ws) (n2.none refl) in
    subst (AreWords (c ∷ cs) [] (not (eqb (length w3) 0))) (sym first) (refl, refl, ap (λ (w : List ℕ). not (eqb (length w) 0)) w3-is, omega arith)
three_words b0 (c ∷ cs) b1 (d ∷ ds) b2 [] b3 n1 n2 n3 =
    let first = n1.some (omega arith) ∙ ap (λ (ws : List (List ℕ)). (c ∷ cs) ∷ ws) (n2.some (omega arith) ∙ ap (λ (ws : List (List ℕ)). (d ∷ ds) ∷ ws) (n3.none refl)) in
    subst (AreWords (c ∷ cs) (d ∷ ds) false) (sym first) (refl, refl, refl, omega arith, omega arith)
three_words b0 (c ∷ cs) b1 (d ∷ ds) b2 (e ∷ es) b3 n1 n2 n3 =
    let first = n1.some (omega arith) ∙ ap (λ (ws : List (List ℕ)). (c ∷ cs) ∷ ws) (n2.some (omega arith) ∙ ap (λ (ws : List (List ℕ)). (d ∷ ds) ∷ ws) (n3.some (omega arith))) in
    let more : not (eqb (length (e ∷ es)) 0) ≡ true = grind (arith, nat_tests) in
    subst (AreWords (c ∷ cs) (d ∷ ds) (not (eqb (length (e ∷ es)) 0))) (sym first) (refl, refl, more, omega arith, omega arith)
