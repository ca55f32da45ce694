-- Where the marks of the groups stand: those of two groups at two places.
use Rattle.std.proofs.Common.{◌≡◌, ℕ, ◌+◌, ◌*◌, ◌/◌, ◌%◌, ◌<◌, ◌&&◌, ◌||◌, List, length, set, refl, sym, ap, ◌∙◌, subst, arith, ⊎_elim, get_or-set_same, get_or-set_other}
use Rattle.std.specs.Prelude.{IsTrue, IsFalse, ◌==◌, nat_lt, slice_index_or, if◌then◌else◌}
use Rattle.std.proofs.lemmas.Bool.{cases_Bool, eqb-true, eqb-false, eq-eqb, ne_eqb, ltb-true, lt-ltb, false≢true}
use Rattle.velo_events.specs.declared.config.Bounds.{Bounds}
use Rattle.velo_search.specs.declared.group.Group.{Group}
use Rattle.velo_search.specs.declared.group.Group.TheVariants.{OfThread, WritesOf, ReadsOf}
use Rattle.velo_search.specs.declared.mark.Mark.{Mark}
use Rattle.velo_events.specs.ThreadSets.{has_thread}
use Rattle.velo_search.specs.Marks.{blank_mark, is_cell, cell_number, cell_count, is_known, number_of, mark_of, same_group}

-- ---- cells

module _ (bounds : Bounds) where
  -- a variable's cell and a lock's
  pub variable-cell : (x : ℕ) → x < bounds.variables → IsTrue (is_cell bounds (x + x))
  variable-cell x h =
      let even : (x + x) % 2 ≡ 0 = omega arith in
      let half : (x + x) / 2 ≡ x = omega (arith, even) in
      ap (λ b. if b then nat_lt ((x + x) / 2) bounds.variables else nat_lt ((x + x) / 2) bounds.locks) (eq-eqb _ _ even) ∙ lt-ltb _ _ (omega (arith, half, h))

  pub lock-cell : (m : ℕ) → m < bounds.locks → IsTrue (is_cell bounds (m + m + 1))
  lock-cell m h =
      let odd : (m + m + 1) % 2 ≡ 1 = omega arith in
      let half : (m + m + 1) / 2 ≡ m = omega (arith, odd) in
      ap (λ b. if b then nat_lt ((m + m + 1) / 2) bounds.variables else nat_lt ((m + m + 1) / 2) bounds.locks) (ne_eqb _ _ (λ e. omega (arith, e, odd))) ∙ lt-ltb _ _ (omega (arith, half, h))

  -- a cell is a variable's, or a lock's
  data CellIs (c : ℕ) : Type 0 where
    Variable : c ≡ 2 * (c / 2) → c / 2 < bounds.variables → cell_number bounds c ≡ c / 2 → CellIs c
    Lock : c ≡ 2 * (c / 2) + 1 → c / 2 < bounds.locks → cell_number bounds c ≡ bounds.variables + c / 2 → CellIs c

  cell_is : (c : ℕ) → IsTrue (is_cell bounds c) → CellIs c
  cell_is c h = ⊎_elim
      (λ even. let zero_rest : c % 2 ≡ 0 = eqb-true _ _ even in
      Variable (omega (arith, zero_rest)) (ltb-true _ _ (sym (ap (λ b. if b then nat_lt (c / 2) bounds.variables else nat_lt (c / 2) bounds.locks) even) ∙ h)) (ap (λ b. if b then c / 2 else bounds.variables + c / 2) even))
      (λ odd. let some_rest : (c % 2 ≡ 0 → ⊥) = eqb-false _ _ odd in
      Lock (omega (arith, some_rest)) (ltb-true _ _ (sym (ap (λ b. if b then nat_lt (c / 2) bounds.variables else nat_lt (c / 2) bounds.locks) odd) ∙ h)) (ap (λ b. if b then c / 2 else bounds.variables + c / 2) odd))
      (cases_Bool (c % 2 == 0))

  pub cell_number-within : (c : ℕ) → IsTrue (is_cell bounds c) → cell_number bounds c < cell_count bounds
  cell_number-within c h = by (cell_is c h)
    where
      by : CellIs c → cell_number bounds c < cell_count bounds
      by (Variable even less is) = omega (arith, less, is)
      by (Lock odd less is) = omega (arith, less, is)

  pub same_cell : (c d : ℕ) → IsTrue (is_cell bounds c) → IsTrue (is_cell bounds d) → cell_number bounds c ≡ cell_number bounds d → c ≡ d
  same_cell c d h k e = by (cell_is c h) (cell_is d k)
    where
      by : CellIs c → CellIs d → c ≡ d
      by (Variable even less is) (Variable even' less' is') = omega (arith, even, is, even', is', e)
      by (Variable even less is) (Lock odd less' is') = absurd (omega (arith, less, is, is', e))
      by (Lock odd less is) (Variable even less' is') = absurd (omega (arith, is, less', is', e))
      by (Lock odd less is) (Lock odd' less' is') = omega (arith, odd, is, odd', is', e)

-- ---- the same group

pub same_group-is : (g h : Group) → IsTrue (same_group g h) → g ≡ h
same_group-is (OfThread t) (OfThread u) s = ap (λ n. OfThread (record { 0 = n })) (eqb-true t.0 u.0 s)
same_group-is (WritesOf c) (WritesOf d) s = ap (λ n. WritesOf (record { 0 = n })) (eqb-true c.0 d.0 s)
same_group-is (ReadsOf c) (ReadsOf d) s = ap (λ n. ReadsOf (record { 0 = n })) (eqb-true c.0 d.0 s)
same_group-is _ _ s = absurd (false≢true s)

pub same_group-itself : (g : Group) → IsTrue (same_group g g)
same_group-itself (OfThread t) = eq-eqb t.0 t.0 refl
same_group-itself (WritesOf c) = eq-eqb c.0 c.0 refl
same_group-itself (ReadsOf c) = eq-eqb c.0 c.0 refl

module _ (bounds : Bounds) where
  -- two groups that are there have two places
  pub same_number : (g h : Group) → IsTrue (is_known bounds g) → IsTrue (is_known bounds h) → number_of bounds g ≡ number_of bounds h → g ≡ h
  same_number (OfThread t) (OfThread u) k l e = ap (λ n. OfThread (record { 0 = n })) e
  same_number (OfThread t) (WritesOf d) k l e = absurd (omega (arith, e, ltb-true _ _ k))
  same_number (OfThread t) (ReadsOf d) k l e = absurd (omega (arith, e, ltb-true _ _ k))
  same_number (WritesOf c) (OfThread u) k l e = absurd (omega (arith, e, ltb-true _ _ l))
  same_number (WritesOf c) (WritesOf d) k l e = ap (λ n. WritesOf (record { 0 = n })) (same_cell bounds c.0 d.0 k l (omega (arith, e)))
  same_number (WritesOf c) (ReadsOf d) k l e = absurd (omega (arith, e, cell_number-within bounds c.0 k))
  same_number (ReadsOf c) (OfThread u) k l e = absurd (omega (arith, e, ltb-true _ _ l))
  same_number (ReadsOf c) (WritesOf d) k l e = absurd (omega (arith, e, cell_number-within bounds d.0 l))
  same_number (ReadsOf c) (ReadsOf d) k l e = ap (λ n. ReadsOf (record { 0 = n })) (same_cell bounds c.0 d.0 k l (omega (arith, e)))

  -- ---- one mark is written

  module _ (marks : List Mark) (h : Group) (there : IsTrue (is_known bounds h)) (within : number_of bounds h < length marks) (m : Mark) where
    -- the mark of that group
    pub mark_of-set_same : mark_of bounds (set marks (number_of bounds h) m) h ≡ m
    mark_of-set_same = ap (λ b. if b then slice_index_or (set marks (number_of bounds h) m) (number_of bounds h) blank_mark else blank_mark) there ∙ get_or-set_same marks (number_of bounds h) m blank_mark within

    -- and the others
    pub mark_of-set_other : (g : Group) → IsFalse (same_group h g) → mark_of bounds (set marks (number_of bounds h) m) g ≡ mark_of bounds marks g
    mark_of-set_other g other = ⊎_elim
        (λ known. ap (λ b. if b then slice_index_or (set marks (number_of bounds h) m) (number_of bounds g) blank_mark else blank_mark) known
        ∙ (get_or-set_other marks (number_of bounds h) (number_of bounds g) m blank_mark (λ e. false≢true (sym other ∙ ap (λ x. same_group h x) (same_number g h known there e) ∙ same_group-itself h))
        ∙ ap (λ b. if b then slice_index_or marks (number_of bounds g) blank_mark else blank_mark) (sym known)))
        (λ unknown. ap (λ b. if b then slice_index_or (set marks (number_of bounds h) m) (number_of bounds g) blank_mark else blank_mark) unknown ∙ ap (λ b. if b then slice_index_or marks (number_of bounds g) blank_mark else blank_mark) (sym unknown))
        (cases_Bool (is_known bounds g))

    -- where the new one has another first set
    pub put-reached : (t : ℕ) → ((u : ℕ) → has_thread m.reached u ≡ (t == u || has_thread (slice_index_or marks (number_of bounds h) blank_mark).reached u)) →
        (g : Group) (u : ℕ) → has_thread (mark_of bounds (set marks (number_of bounds h) m) g).reached u ≡ ((same_group h g && t == u) || has_thread (mark_of bounds marks g).reached u)
    put-reached t with g u = ⊎_elim
        (λ same. subst (λ x. has_thread (mark_of bounds (set marks (number_of bounds h) m) x).reached u ≡ ((same_group h x && t == u) || has_thread (mark_of bounds marks x).reached u)) (same_group-is h g same)
        (ap (λ x. has_thread x.reached u) mark_of-set_same
        ∙ (with u
        ∙ (ap (λ x. t == u || has_thread x.reached u) (ap (λ b. if b then slice_index_or marks (number_of bounds h) blank_mark else blank_mark) (sym there))
        ∙ ap (λ b. (b && t == u) || has_thread (mark_of bounds marks h).reached u) (sym (same_group-itself h))))))
        (λ other. ap (λ x. has_thread x.reached u) (mark_of-set_other g other) ∙ ap (λ b. (b && t == u) || has_thread (mark_of bounds marks g).reached u) (sym other))
        (cases_Bool (same_group h g))

    -- and the same second one
    pub put-beyond : m.beyond ≡ (slice_index_or marks (number_of bounds h) blank_mark).beyond → (g : Group) → (mark_of bounds (set marks (number_of bounds h) m) g).beyond ≡ (mark_of bounds marks g).beyond
    put-beyond kept g = ⊎_elim
        (λ same. subst (λ x. (mark_of bounds (set marks (number_of bounds h) m) x).beyond ≡ (mark_of bounds marks x).beyond) (same_group-is h g same)
        (ap (λ x. x.beyond) mark_of-set_same ∙ (kept ∙ ap (λ b. (if b then slice_index_or marks (number_of bounds h) blank_mark else blank_mark).beyond) (sym there))))
        (λ other. ap (λ x. x.beyond) (mark_of-set_other g other))
        (cases_Bool (same_group h g))
