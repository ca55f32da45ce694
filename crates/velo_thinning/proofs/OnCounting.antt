-- The variables that some event accesses are marked.
use Rattle.std.proofs.Common.{◌≡◌, ℕ, zero, suc, ◌+◌, ◌<◌, Bool, true, false, Some, List, [], ◌∷◌, ◌++◌, length, get_or, set, take, drop, replicate, refl, sym, ap, ◌∙◌, arith, ⊎_elim, get_or-set_same, get_or-set_other, length-set}
use Rattle.std.specs.Prelude.{◌||◌, ◌==◌, if◌then◌else◌}
use Rattle.std.proofs.lemmas.Bool.{cases_eq, eq-eqb, ne_eqb}
use Rattle.std.proofs.lemmas.List.{length-replicate, get_or-replicate, take-append-le}
use Rattle.std.proofs.Math.Seq.{take-length}
use Rattle.velo_events.specs.declared.event.Event.{Event}
use Rattle.velo_events.specs.declared.event.Kind.{Kind}
use Rattle.velo_events.specs.declared.event.Kind.TheVariants.{Read, Write}
use Rattle.velo_events.specs.Event.{are_same, variable_of}
use Rattle.velo_events.specs.Heap.{happened}
use Rattle.velo_events.proofs.OnTraces.{happened-push}
use Rattle.velo_laws.specs.Length.{counted}
use Rattle.velo_filter.specs.Tables.{marked}
use Rattle.velo_thinning.specs.Counting.{is_access_to, variables_in, marked_after, AreMarked}

pub counted-same : (n : ℕ) (p q : ℕ → Bool) → ((k : ℕ) → k < n → p k ≡ q k) → counted n p ≡ counted n q
unfolding counted
counted-same zero p q same = refl
counted-same (suc n) p q same =
    let rest = counted-same n p q (λ k l. same k (omega (arith, l))) in
    ap (λ c. c + (if p n then 1 else 0)) rest ∙ ap (λ b. counted n q + (if b then 1 else 0)) (same n (omega arith))

pub counted-zero : (p : ℕ → Bool) → counted 0 p ≡ 0
unfolding counted
counted-zero p = refl

pub counted-suc : (n : ℕ) (p : ℕ → Bool) → counted (n + 1) p ≡ counted n p + (if p n then 1 else 0)
unfolding counted
counted-suc n p = ap (λ k. counted k p) (let one : n + 1 ≡ suc n = omega arith in one)

or-true : (b : Bool) → (b || true) ≡ true
or-true true = refl
or-true false = refl

or-none : (b : Bool) → (b || false) ≡ b
or-none true = refl
or-none false = refl

mark-set : (marks : List Bool) (y x : ℕ) → x < length marks → marked (set marks y true) x ≡ (marked marks x || (y == x))
mark-set marks y x l = ⊎_elim
    (λ same. ap (λ k. get_or (set marks k true) x false) same ∙ (get_or-set_same marks x true false l ∙ sym (ap (λ b. marked marks x || b) (eq-eqb y x same) ∙ or-true (marked marks x))))
    (λ differ. get_or-set_other marks y x true false (λ same. differ (sym same)) ∙ sym (ap (λ b. marked marks x || b) (ne_eqb y x differ) ∙ or-none (marked marks x)))
    (cases_eq y x)

mark-kind : (k : Kind) (marks : List Bool) (x : ℕ) → x < length marks → marked (marked_after marks k) x ≡ (marked marks x || are_same (variable_of k) (Some x))
mark-kind (Read y v) marks x l = mark-set marks y.0 x l
mark-kind (Write y v) marks x l = mark-set marks y.0 x l
mark-kind _ marks x l = sym (or-none (marked marks x))

pub length-marked : (k : Kind) (marks : List Bool) → length (marked_after marks k) ≡ length marks
length-marked (Read y v) marks = length-set marks y.0 true
length-marked (Write y v) marks = length-set marks y.0 true
length-marked _ marks = refl

-- what is written back to a list through a slice of all of it
pub written_back : (new old : List Bool) (n : ℕ) → length new ≡ n → take n (new ++ drop (length new) old) ≡ new
written_back new old n size =
    ap (λ k. take k (new ++ drop (length new) old)) (sym size) ∙ (take-append-le (length new) new (drop (length new) old) (omega arith) ∙ take-length new)

pub marked-start : (n : ℕ) → n ≡ 65536 → (marks : List Bool) → marks ≡ replicate n false → AreMarked [] marks
unfolding happened
marked-start n is marks all = record {
  count = ap length all ∙ (length-replicate n false ∙ is);
  each = λ x l. ap (λ ms. get_or ms x false) all ∙ get_or-replicate n x false false (let e = length-replicate n false in omega (arith, l, e, is));
}

pub marked-next : (log : List Event) (e : Event) (marks : List Bool) → AreMarked log marks → AreMarked (log ++ e ∷ []) (marked_after marks e.kind)
marked-next log e marks m = record {
  count = length-marked e.kind marks ∙ m.count;
  each = λ x l. mark-kind e.kind marks x (let c = m.count in omega (arith, c, l)) ∙ (ap (λ b. b || is_access_to x e) (m.each x l) ∙ sym (happened-push (is_access_to x) log e));
}

pub variables-marked : (log : List Event) (marks : List Bool) → AreMarked log marks → counted 65536 (marked marks) ≡ variables_in log
variables-marked log marks m = counted-same 65536 (marked marks) (λ x. happened (is_access_to x) log) m.each
