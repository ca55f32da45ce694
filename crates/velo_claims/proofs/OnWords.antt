-- The first word of bytes, and those behind it.
use Rattle.std.proofs.Common.{◌≡◌, ℕ, suc, Bool, true, false, cond, eqb, List, [], ◌∷◌, length, take, drop, refl, sym, ap, ◌∙◌, arith}
use Rattle.std.specs.List.{onto_first, position_or_len}
use Rattle.velo_claims.specs.Line.{words}

-- where the first space stands, or the length
abbrev pub end_of : List ℕ → ℕ
end_of bytes = position_or_len (λ b. eqb b 32) bytes

-- the words behind the space in front
abbrev pub words_after : List ℕ → List (List ℕ)
words_after [] = []
words_after (b ∷ bs) = words bs

pub no_bytes : (bs : List ℕ) → length bs ≡ 0 → bs ≡ []
no_bytes [] none = refl
no_bytes (b ∷ bs) none = absurd (omega arith)

end_here : (b : ℕ) (bs : List ℕ) → eqb b 32 ≡ true → end_of (b ∷ bs) ≡ 0
end_here b bs e = rw e refl

end_later : (b : ℕ) (bs : List ℕ) → eqb b 32 ≡ false → end_of (b ∷ bs) ≡ suc (end_of bs)
end_later b bs e = rw e (omega arith)

word_here : (b : ℕ) (bs : List ℕ) → eqb b 32 ≡ true → words (b ∷ bs) ≡ take (end_of (b ∷ bs)) (b ∷ bs) ∷ words_after (drop (end_of (b ∷ bs)) (b ∷ bs))
word_here b bs e =
    ap (λ (v : Bool). cond v ([] ∷ words bs) (onto_first b (words bs))) e
    ∙ ap (λ (n : ℕ). take n (b ∷ bs) ∷ words_after (drop n (b ∷ bs))) (sym (end_here b bs e))

word_on : (b : ℕ) (bs : List ℕ) → eqb b 32 ≡ false → words bs ≡ take (end_of bs) bs ∷ words_after (drop (end_of bs) bs) → words (b ∷ bs) ≡ take (end_of (b ∷ bs)) (b ∷ bs) ∷ words_after (drop (end_of (b ∷ bs)) (b ∷ bs))
word_on b bs e h =
    ap (λ (v : Bool). cond v ([] ∷ words bs) (onto_first b (words bs))) e
    ∙ ap (onto_first b) h
    ∙ ap (λ (n : ℕ). take n (b ∷ bs) ∷ words_after (drop n (b ∷ bs))) (sym (end_later b bs e))

pub first_word : (bs : List ℕ) → words bs ≡ take (end_of bs) bs ∷ words_after (drop (end_of bs) bs)
first_word [] = refl
first_word (b ∷ bs) = by (eqb b 32) refl (first_word bs)
  where
    by : (v : Bool) → eqb b 32 ≡ v → words bs ≡ take (end_of bs) bs ∷ words_after (drop (end_of bs) bs) → words (b ∷ bs) ≡ take (end_of (b ∷ bs)) (b ∷ bs) ∷ words_after (drop (end_of (b ∷ bs)) (b ∷ bs))
    by true e h = word_here b bs e
    by false e h = word_on b bs e h
