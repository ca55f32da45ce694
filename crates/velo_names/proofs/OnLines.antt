-- The first line of bytes, and those behind it.
use Rattle.std.proofs.Common.{◌≡◌, ℕ, ◌<◌, suc, Bool, true, false, cond, eqb, List, [], ◌∷◌, length, take, drop, refl, sym, ap, ◌∙◌, arith}
use Rattle.std.specs.List.{onto_first, position_or_len}
use Rattle.velo_names.specs.Line.{lines}

-- where the first newline stands, or the length
abbrev pub end_of : List ℕ → ℕ
end_of bytes = position_or_len (λ b. eqb b 10) bytes

-- what follows the byte in front
abbrev pub tail_of : List ℕ → List ℕ
tail_of [] = []
tail_of (b ∷ bs) = bs

pub no_bytes : (bs : List ℕ) → length bs ≡ 0 → bs ≡ []
no_bytes [] none = refl
no_bytes (b ∷ bs) none = absurd (omega arith)

end_here : (b : ℕ) (bs : List ℕ) → eqb b 10 ≡ true → end_of (b ∷ bs) ≡ 0
end_here b bs e = rw e refl

end_later : (b : ℕ) (bs : List ℕ) → eqb b 10 ≡ false → end_of (b ∷ bs) ≡ suc (end_of bs)
end_later b bs e = rw e (omega arith)

split_here : (b : ℕ) (bs : List ℕ) → eqb b 10 ≡ true → lines (b ∷ bs) ≡ take (end_of (b ∷ bs)) (b ∷ bs) ∷ lines (tail_of (drop (end_of (b ∷ bs)) (b ∷ bs)))
split_here b bs e =
    ap (λ (v : Bool). cond v ([] ∷ lines bs) (onto_first b (lines bs))) e
    ∙ ap (λ (n : ℕ). take n (b ∷ bs) ∷ lines (tail_of (drop n (b ∷ bs)))) (sym (end_here b bs e))

split_on : (b : ℕ) (bs : List ℕ) → eqb b 10 ≡ false → onto_first b (lines bs) ≡ (b ∷ take (end_of bs) bs) ∷ lines (tail_of (drop (end_of bs) bs)) → lines (b ∷ bs) ≡ take (end_of (b ∷ bs)) (b ∷ bs) ∷ lines (tail_of (drop (end_of (b ∷ bs)) (b ∷ bs)))
split_on b bs e h =
    ap (λ (v : Bool). cond v ([] ∷ lines bs) (onto_first b (lines bs))) e ∙ h
    ∙ ap (λ (n : ℕ). take n (b ∷ bs) ∷ lines (tail_of (drop n (b ∷ bs)))) (sym (end_later b bs e))

pub first_line : (bs : List ℕ) → 0 < length bs → lines bs ≡ take (end_of bs) bs ∷ lines (tail_of (drop (end_of bs) bs))
first_line [] some = absurd (omega arith)
first_line (b ∷ []) some = by (eqb b 10) refl
  where
    by : (v : Bool) → eqb b 10 ≡ v → lines (b ∷ []) ≡ take (end_of (b ∷ [])) (b ∷ []) ∷ lines (tail_of (drop (end_of (b ∷ [])) (b ∷ [])))
    by true e = split_here b [] e
    by false e = split_on b [] e refl
first_line (b ∷ c ∷ cs) some = by (eqb b 10) refl (first_line (c ∷ cs) (omega arith))
  where
    by : (v : Bool) → eqb b 10 ≡ v → lines (c ∷ cs) ≡ take (end_of (c ∷ cs)) (c ∷ cs) ∷ lines (tail_of (drop (end_of (c ∷ cs)) (c ∷ cs))) → lines (b ∷ c ∷ cs) ≡ take (end_of (b ∷ c ∷ cs)) (b ∷ c ∷ cs) ∷ lines (tail_of (drop (end_of (b ∷ c ∷ cs)) (b ∷ c ∷ cs)))
    by true e h = split_here b (c ∷ cs) e
    by false e h = split_on b (c ∷ cs) e (ap (onto_first b) h)
