-- Patterns, piece by piece.
use Rattle.std.proofs.Common.{◌≡◌, ◌≢◌, ◌||◌, ◌&&◌, ℕ, ◌+◌, ◌<◌, ◌≤◌, suc, Bool, true, false, cond, eqb, List, [], ◌∷◌, length, refl, sym, ap, subst, ⊎_elim, ◌∙◌, arith}
use Rattle.std.proofs.lemmas.Bool.{ne_eqb}
use Rattle.std.proofs.lemmas.Bool.Decides.{eqb_tells}
use Rattle.std.specs.Borrow.{Bor}
use Rattle.velo_names.specs.Pattern.{begins_with, is_like, some_tail}
use Rattle.velo_names.specs.Meeting.{Goes, value_of}
use Rattle.velo_names.specs.declared.pattern.Met.{Met}
use Rattle.velo_names.specs.declared.pattern.Met.TheVariants.{Star, End, Apart}

same_eqb : (a b : ℕ) → a ≡ b → eqb a b ≡ true
same_eqb a b e = ⊎_elim (λ y. y.0) (λ n. absurd (n.1 e)) (eqb_tells a b)

-- ---- tails of a text

left_false : (a b : Bool) → a || b ≡ false → a ≡ false
left_false true b e = e
left_false false b e = refl

right_false : (a b : Bool) → a || b ≡ false → b ≡ false
right_false true b e = absurd cc
right_false false b e = e

both_false : (a b : Bool) → a ≡ false → b ≡ false → a || b ≡ false
both_false a b e f = rw e f

or_true : (b : Bool) → b || true ≡ true
or_true true = refl
or_true false = refl

none_here : (test : List ℕ → Bool) (ts : List ℕ) → some_tail test ts ≡ false → test ts ≡ false
none_here test [] e = e
none_here test (b ∷ bs) e = left_false (test (b ∷ bs)) (some_tail test bs) e

none_later : (test : List ℕ → Bool) (b : ℕ) (bs : List ℕ) → some_tail test (b ∷ bs) ≡ false → some_tail test bs ≡ false
none_later test b bs e = right_false (test (b ∷ bs)) (some_tail test bs) e

some_here : (test : List ℕ → Bool) (ts : List ℕ) → test ts ≡ true → some_tail test ts ≡ true
some_here test [] e = e
some_here test (b ∷ bs) e = ap (λ (v : Bool). v || some_tail test bs) e

-- ---- a byte of a pattern

at_star : (p : ℕ) (ps ts : List ℕ) → eqb p 42 ≡ true → is_like (p ∷ ps) ts ≡ some_tail (is_like ps) ts
at_star p ps ts e = ap (λ (v : Bool). cond v (some_tail (is_like ps) ts) (begins_with p (is_like ps) ts)) e

at_byte : (p : ℕ) (ps ts : List ℕ) → eqb p 42 ≡ false → is_like (p ∷ ps) ts ≡ begins_with p (is_like ps) ts
at_byte p ps ts e = ap (λ (v : Bool). cond v (some_tail (is_like ps) ts) (begins_with p (is_like ps) ts)) e

and_false : (a b : Bool) → b ≡ false → a && b ≡ false
and_false true b e = e
and_false false b e = refl

-- where no tail is like what follows a byte, none is like all of it
none_begins : (p : ℕ) (ps ts : List ℕ) → eqb p 42 ≡ false → some_tail (is_like ps) ts ≡ false → some_tail (is_like (p ∷ ps)) ts ≡ false
none_begins p ps [] e none = at_byte p ps [] e
none_begins p ps (b ∷ bs) e none =
    let later : some_tail (is_like ps) bs ≡ false = none_later (is_like ps) b bs none in
    both_false (is_like (p ∷ ps) (b ∷ bs)) (some_tail (is_like (p ∷ ps)) bs)
    (at_byte p ps (b ∷ bs) e ∙ and_false (eqb p b) (is_like ps bs) (none_here (is_like ps) bs later))
    (none_begins p ps bs e later)

none_behind : (p : ℕ) (ps : List ℕ) (b : ℕ) (bs : List ℕ) → eqb p 42 ≡ false → some_tail (is_like ps) bs ≡ false → some_tail (is_like (p ∷ ps)) (b ∷ bs) ≡ false
none_behind p ps b bs e none =
    both_false (is_like (p ∷ ps) (b ∷ bs)) (some_tail (is_like (p ∷ ps)) bs)
    (at_byte p ps (b ∷ bs) e ∙ and_false (eqb p b) (is_like ps bs) (none_here (is_like ps) bs none))
    (none_begins p ps bs e none)

-- ---- a piece

-- so much of a pattern and of a text is still to be compared
pub record Meets (pattern text piece rest : List ℕ) : Type 0 where
  pub same : is_like piece rest ≡ is_like pattern text
  pub in_vain : some_tail (is_like piece) rest ≡ false → some_tail (is_like pattern) text ≡ false
  pub shorter : length piece ≤ length pattern

pub meets_next : (pattern text : List ℕ) (p : ℕ) (ps : List ℕ) (b : ℕ) (bs piece rest : List ℕ) → piece ≡ p ∷ ps → rest ≡ b ∷ bs → p ≢ 42 → b ≡ p → Meets pattern text piece rest → Meets pattern text ps bs
meets_next pattern text p ps b bs piece rest is_piece is_rest other like meets = record {
  same = sym (at_byte p ps (b ∷ bs) e ∙ ap (λ (v : Bool). v && is_like ps bs) (same_eqb p b (sym like))) ∙ m.same;
  in_vain = λ none. m.in_vain (none_behind p ps b bs e none);
  shorter = omega (arith, m.shorter);
}
  where
    e : eqb p 42 ≡ false
    e = ne_eqb p 42 other

    m : Meets pattern text (p ∷ ps) (b ∷ bs)
    m = subst (λ (xs : List ℕ). Meets pattern text (p ∷ ps) xs) is_rest (subst (λ (xs : List ℕ). Meets pattern text xs rest) is_piece meets)

pub goes_to_star : (pattern text : List ℕ) (p : ℕ) (more rest : Bor (List ℕ)) (piece : List ℕ) → piece ≡ p ∷ more.now → p ≡ 42 → Meets pattern text piece rest.now → Goes pattern text (Star more rest)
goes_to_star pattern text p more rest piece is star meets = record {
  value = sym (at_star p more.now rest.now e) ∙ m.same;
  ends = (omega (arith, m.shorter), λ none. m.in_vain (stars rest.now none));
}
  where
    e : eqb p 42 ≡ true
    e = same_eqb p 42 star

    m : Meets pattern text (p ∷ more.now) rest.now
    m = subst (λ (xs : List ℕ). Meets pattern text xs rest.now) is meets

    stars : (ts : List ℕ) → some_tail (is_like more.now) ts ≡ false → some_tail (is_like (p ∷ more.now)) ts ≡ false
    stars [] none = at_star p more.now [] e ∙ none
    stars (b ∷ bs) none = both_false (is_like (p ∷ more.now) (b ∷ bs)) (some_tail (is_like (p ∷ more.now)) bs) (at_star p more.now (b ∷ bs) e ∙ none) (stars bs (none_later (is_like more.now) b bs none))

-- ---- the first tail of a text that meets a piece

pub tail_met : (pattern text : List ℕ) (met : Met) → Goes pattern text met → met ≢ Apart → value_of met ≡ some_tail (is_like pattern) text
tail_met pattern text End goes met = sym (some_here (is_like pattern) text (sym goes.value))
tail_met pattern text Apart goes met = absurd (met refl)
tail_met pattern text (Star more rest) goes met = by (some_tail (is_like more.now) rest.now) refl
  where
    by : (v : Bool) → some_tail (is_like more.now) rest.now ≡ v → some_tail (is_like more.now) rest.now ≡ some_tail (is_like pattern) text
    by true e = e ∙ sym (some_here (is_like pattern) text (sym goes.value ∙ e))
    by false e = e ∙ sym (goes.ends.1 e)
