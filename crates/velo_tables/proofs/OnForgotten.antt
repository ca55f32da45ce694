-- The tables after a read was forgotten.
use Rattle.std.proofs.Common.{◌≡◌, ℕ, ◌<◌, ◌≤◌, List, length, get_or, Option, None, refl, sym, ap, ◌∙◌, subst, arith, ⊎_elim}
use Rattle.std.specs.Prelude.{◌==◌, ◌&&◌, if◌then◌else◌}
use Rattle.std.proofs.Math.ListN.{set}
use Rattle.std.proofs.lemmas.Bool.{cases_eq, cases_lt, ne_eqb, eq-eqb}
use Rattle.std.proofs.lemmas.List.{get_or-set_other, get_or-set_same, length-set, get_or_past, set_past}
use Rattle.velo_events.specs.Place.{Place, LastOf, LastWrite, LastRead}
use Rattle.velo_tables.specs.LastAccesses.{LastAccesses, Accesses, no_accesses, accesses_of, entry, is_last_read, IsReadForgotten}
use Rattle.velo_tables.specs.Recorded.{with_read, with_cell}
use Rattle.velo_events.proofs.OnLists.{get_or-set}
use Rattle.velo_tables.proofs.OnLastAccesses.{IsRoomier, HasRoomFor-kept}

-- what stands past the end is written nowhere
get_or-cleared : {X : Type 0} (xs : List (Option X)) (i j : ℕ) → get_or (set xs i None) j None ≡ (if i == j then None else get_or xs j None)
get_or-cleared xs i j =
    ⊎_elim (λ (within : i < length xs). get_or-set xs i j None None within)
    (λ (past : length xs ≤ i). ap (λ ys. get_or ys j None) (set_past xs i None past)
    ∙ ⊎_elim
    (λ (at : i ≡ j). get_or_past xs j None (omega (arith, past, at)) ∙ ap (λ b. if b then None else get_or xs j None) (sym (eq-eqb i j at)))
    (λ (off : i ≡ j → ⊥). ap (λ b. if b then None else get_or xs j None) (sym (ne_eqb i j off)))
    (cases_eq i j))
    (cases_lt i (length xs))

module _ (kept : LastAccesses) (x t : ℕ) where
  abbrev read : Accesses
  read = with_read (accesses_of kept x) t None

  abbrev after : LastAccesses
  after = with_cell kept x read

  here : accesses_of after x ≡ read
  here =
      ⊎_elim (λ (within : x < length kept.cells). get_or-set_same kept.cells x read no_accesses within)
      (λ (past : length kept.cells ≤ x).
      ap (λ vs. get_or vs x no_accesses) (set_past kept.cells x read past)
      ∙ (get_or_past kept.cells x no_accesses past
      ∙ ap (λ (a : Accesses). with_read a t None) (sym (get_or_past kept.cells x no_accesses past))))
      (cases_lt x (length kept.cells))

  others : (y : ℕ) → (x ≡ y → ⊥) → accesses_of after y ≡ accesses_of kept y
  others y off = get_or-set_other kept.cells x y read no_accesses (λ e. off (sym e))

  writes : (y : ℕ) → (accesses_of after y).write ≡ (accesses_of kept y).write
  writes y =
      ⊎_elim (λ at. subst (λ k. (accesses_of after k).write ≡ (accesses_of kept k).write) at (ap (λ (a : Accesses). a.write) here))
      (λ off. ap (λ (a : Accesses). a.write) (others y off)) (cases_eq x y)

  reads : (y u : ℕ) → get_or (accesses_of after y).reads u None ≡ (if (x == y) && (t == u) then None else get_or (accesses_of kept y).reads u None)
  reads y u =
      ⊎_elim
      (λ at. subst (λ k. get_or (accesses_of after k).reads u None ≡ (if (x == k) && (t == u) then None else get_or (accesses_of kept k).reads u None)) at
      (ap (λ (a : Accesses). get_or a.reads u None) here
      ∙ (get_or-cleared (accesses_of kept x).reads t u ∙ ap (λ b. if b && (t == u) then None else get_or (accesses_of kept x).reads u None) (sym (eq-eqb x x refl)))))
      (λ off. ap (λ (a : Accesses). get_or a.reads u None) (others y off)
      ∙ ap (λ b. if b && (t == u) then None else get_or (accesses_of kept y).reads u None) (sym (ne_eqb x y off)))
      (cases_eq x y)

  lengths : (y : ℕ) → length (accesses_of kept y).reads ≤ length (accesses_of after y).reads
  lengths y =
      ⊎_elim
      (λ at. subst (λ k. length (accesses_of kept k).reads ≤ length (accesses_of after k).reads) at
      (let same : length (accesses_of after x).reads ≡ length read.reads = ap (λ (a : Accesses). length a.reads) here in omega (arith, same, length-set (accesses_of kept x).reads t None)))
      (λ off. let same : length (accesses_of after y).reads ≡ length (accesses_of kept y).reads = ap (λ (a : Accesses). length a.reads) (others y off) in omega (arith, same))
      (cases_eq x y)

  entry-forgotten : (p : Place) → entry after p ≡ (if is_last_read x t p then None else entry kept p)
  entry-forgotten (LastOf u) = refl
  entry-forgotten (LastWrite y) = writes y
  entry-forgotten (LastRead y u) = reads y u

  roomier : IsRoomier kept after
  roomier = record { threads = omega arith; cells = omega (arith, length-set kept.cells x read); reads = lengths }

  pub IsReadForgotten-after : IsReadForgotten kept x t after
  IsReadForgotten-after = record { each = entry-forgotten; room = λ e room. HasRoomFor-kept kept after e roomier room }
