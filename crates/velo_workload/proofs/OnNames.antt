-- Names by the words that they are.
use Rattle.std.proofs.Common.{◌≡◌, ℕ, ◌+◌, suc, ltb, cond, Bool, true, false, ◌||◌, Option, Some, None, List, [], ◌∷◌, ◌++◌, length, map, refl, sym, ap, ◌∙◌, if◌then◌else◌}
use Rattle.std.specs.Prelude.{not, position}
use denote.Ref.{Bor}
use Rattle.std.specs.List.{list_any, position_or_len}
use Rattle.std.specs.Str.{bytes_eq}
use Rattle.std.proofs.lemmas.List.{map-append}
use Rattle.indexmap.specs.IndexSet.{insert_key}

abbrev pub same_name : Bor (List ℕ) → Bor (List ℕ) → Bool
same_name x y = bytes_eq x.now y.now

abbrev pub words_of : List (Bor (List ℕ)) → List (List ℕ)
words_of ks = map (λ k. k.now) ks

pub any_word : (ks : List (Bor (List ℕ))) (k : Bor (List ℕ)) → list_any (same_name k) ks ≡ list_any (bytes_eq k.now) (words_of ks)
any_word [] k = refl
any_word (x ∷ ks) k = ap (λ (b : Bool). bytes_eq k.now x.now || b) (any_word ks k)

pub insert_word : (ks : List (Bor (List ℕ))) (k : Bor (List ℕ)) → words_of (insert_key same_name ks k) ≡ insert_key bytes_eq (words_of ks) k.now
insert_word ks k = by (list_any (same_name k) ks) refl
  where
    by : (b : Bool) → list_any (same_name k) ks ≡ b → words_of (insert_key same_name ks k) ≡ insert_key bytes_eq (words_of ks) k.now
    by true e = ap (λ (b : Bool). words_of (if b then ks else ks ++ k ∷ [])) e ∙ sym (ap (λ (b : Bool). if b then words_of ks else words_of ks ++ k.now ∷ []) (sym (any_word ks k) ∙ e))
    by false e = ap (λ (b : Bool). words_of (if b then ks else ks ++ k ∷ [])) e ∙ map-append (λ (k : Bor (List ℕ)). k.now) ks (k ∷ []) ∙ sym (ap (λ (b : Bool). if b then words_of ks else words_of ks ++ k.now ∷ []) (sym (any_word ks k) ∙ e))

pub any_word_by : (ks : List (Bor (List ℕ))) (q : List ℕ) → list_any (λ k. bytes_eq q k.now) ks ≡ list_any (bytes_eq q) (words_of ks)
any_word_by [] q = refl
any_word_by (x ∷ ks) q = ap (λ (b : Bool). bytes_eq q x.now || b) (any_word_by ks q)

place_of_word : (ks : List (Bor (List ℕ))) (q : List ℕ) → position_or_len (λ k. bytes_eq q k.now) ks ≡ position_or_len (bytes_eq q) (words_of ks)
place_of_word [] q = refl
place_of_word (x ∷ ks) q = ap (λ (n : ℕ). cond (not (bytes_eq q x.now)) (1 + n) 0) (place_of_word ks q)

count_words : (ks : List (Bor (List ℕ))) → length ks ≡ length (words_of ks)
count_words [] = refl
count_words (x ∷ ks) = ap suc (count_words ks)

pub number_of_word : (ks : List (Bor (List ℕ))) (q : List ℕ) → position (λ k. bytes_eq q k.now) ks ≡ position (bytes_eq q) (words_of ks)
number_of_word ks q =
    let at : (n : ℕ) → Option ℕ = λ n. cond (ltb n (length ks)) (Some n) None in
    let of : (m : ℕ) → Option ℕ = λ m. cond (ltb (position_or_len (bytes_eq q) (words_of ks)) m) (Some (position_or_len (bytes_eq q) (words_of ks))) None in
    ap at (place_of_word ks q) ∙ ap of (count_words ks)
