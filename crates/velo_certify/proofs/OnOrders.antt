-- Lists that may be serial reorderings: their places, and whether transactions stand together in them.
use Rattle.std.proofs.Common.{◌≡◌, ◌≢◌, ℕ, ◌+◌, ◌-◌, ◌<◌, ◌≤◌, Bool, true, false, cond, List, length, take, drop, set, replicate, refl, sym, ap, ◌∙◌, subst, arith, ⊎_elim, Result, Ok, Err}
use Rattle.std.specs.Prelude.{◌↔◌, IfOk, IfErr, ◌==◌, nat_lt, if◌then◌else◌, count_by, slice_index, slice_index_or, IsTrue, IsFalse}
use Rattle.std.proofs.lemmas.Bool.{cases_eq, cases_lt, eq-eqb, eqb-true, ne_eqb, lt-ltb, le-ltb, both_ways, false≢true, false_from_ne_true}
use Rattle.std.proofs.lemmas.List.{length-set, get_or-set_same, get_or-set_other, length-replicate, get_or-replicate, take-append-drop, get_or_past}
use Rattle.std.proofs.Math.Seq.{take-length}
use Rattle.std.proofs.lemmas.List.Sums.{sum_by-append, count_by_more_no, count_by_more_yes}
use Rattle.velo_events.specs.declared.event.Event.{Event}
use Rattle.velo_events.specs.Block.{owner}
use Rattle.velo_events.specs.Reordering.{IsReordering, IsSerial}
use Rattle.velo_events.proofs.OnBlocks.{owner-le}
use Rattle.velo_events.proofs.OnReorderings.{conflict_at-within, IsReordering-place, IsReordering-pair}
use Rattle.velo_certify.specs.Owners.{AreOwners}
use Rattle.velo_certify.specs.Order.{HasEachOnce, IsFilled, ArePlaces, KeepsConflicts, owner_at, AreTogether, StandSoFar}

-- ---- places

-- in all places there are no fewer than in the first
pub count_take : (p : ℕ → Bool) (k : ℕ) (xs : List ℕ) → count_by p (take k xs) ≤ count_by p xs
count_take p k xs =
    let both = sum_by-append (λ x. cond {A = ℕ} (p x) 1 0) (take k xs) (drop k xs) in
    let all = ap (count_by p) (take-append-drop k xs) in
    omega (arith, both, all)

module _ (order : List ℕ) (k : ℕ) (places : List ℕ) (within : k < length order) (w : IsFilled order k places) where
  abbrev pub here : ℕ
  here = slice_index order k

  more_yes : (i : ℕ) → here ≡ i → count_by (λ m. m == i) (take (k + 1) order) ≡ count_by (λ m. m == i) (take k order) + 1
  more_yes i same = count_by_more_yes (λ m. m == i) order k 0 within (eq-eqb here i same)

  -- a position that has no place gets this one
  pub IsFilled-next : here < length places → slice_index places here ≡ 0 → IsFilled order (k + 1) (set places here (k + 1))
  IsFilled-next inside new = record {
    counts = λ i. ⊎_elim
        (λ same.
        let was : count_by (λ m. m == i) (take k order) ≡ 0 = w.counts i ∙ ap (λ b. cond {A = ℕ} b 1 0) (le-ltb 0 (slice_index places i) (let none = ap (slice_index places) (sym same) ∙ new in omega (arith, none))) in
        let now : slice_index (set places here (k + 1)) i ≡ k + 1 = ap (slice_index (set places here (k + 1))) (sym same) ∙ get_or-set_same places here (k + 1) 0 inside in
        let one : cond {A = ℕ} (nat_lt 0 (slice_index (set places here (k + 1)) i)) 1 0 ≡ 1 = ap (λ b. cond {A = ℕ} b 1 0) (lt-ltb 0 (slice_index (set places here (k + 1)) i) (omega (arith, now))) in
        let more = more_yes i same in
        omega (arith, was, one, more))
        (λ other.
        count_by_more_no (λ m. m == i) order k 0 within (ne_eqb here i other)
        ∙ (w.counts i ∙ ap (λ n. cond {A = ℕ} (nat_lt 0 n) 1 0) (sym (get_or-set_other places here i (k + 1) 0 (λ e. other (sym e))))))
        (cases_eq here i);
    placed = λ m l. ⊎_elim
        (λ before.
        let was = w.placed m before in
        get_or-set_other places here (slice_index order m) (k + 1) 0 (λ e. let none = ap (slice_index places) e ∙ new in absurd (omega (arith, was, none))) ∙ was)
        (λ last.
        let same : k ≡ m = omega (arith, last, l) in
        subst (λ n. slice_index (set places here (k + 1)) (slice_index order n) ≡ n + 1) same (get_or-set_same places here (k + 1) 0 inside))
        (cases_lt m k);
  }

  -- one that has a place, or none to get, is not in the list once
  pub fails-beyond : length places ≤ here → ¬ HasEachOnce (length places) order
  fails-beyond beyond h =
      let all = h.each here ∙ ap (λ b. cond {A = ℕ} b 1 0) (le-ltb here (length places) beyond) in
      let more = more_yes here refl in
      let most = count_take (λ m. m == here) (k + 1) order in
      omega (arith, all, more, most)

  pub fails-twice : here < length places → 0 < slice_index places here → ¬ HasEachOnce (length places) order
  fails-twice inside placed h =
      let all = h.each here ∙ ap (λ b. cond {A = ℕ} b 1 0) (lt-ltb here (length places) inside) in
      let was = w.counts here ∙ ap (λ b. cond {A = ℕ} b 1 0) (lt-ltb 0 (slice_index places here) placed) in
      let more = more_yes here refl in
      let most = count_take (λ m. m == here) (k + 1) order in
      omega (arith, all, was, more, most)

module _ (order places : List ℕ) (w : IsFilled order (length order) places) where
  counts-all : (i : ℕ) → count_by (λ m. m == i) order ≡ (if nat_lt 0 (slice_index places i) then 1 else 0)
  counts-all i = sym (ap (count_by (λ m. m == i)) (take-length order)) ∙ w.counts i

  pub ArePlaces-by : ((i : ℕ) → i < length places → 0 < slice_index places i) → ArePlaces (length places) order places
  ArePlaces-by full = record {
    count = refl;
    once = record {
      each = λ i. ⊎_elim
          (λ l. counts-all i ∙ ap (λ b. cond {A = ℕ} b 1 0) (lt-ltb 0 (slice_index places i) (full i l) ∙ sym (lt-ltb i (length places) l)))
          (λ g. counts-all i ∙ ap (λ b. cond {A = ℕ} b 1 0) (le-ltb 0 (slice_index places i) (let none = get_or_past places i 0 g in omega (arith, none)) ∙ sym (le-ltb i (length places) g)))
          (cases_lt i (length places));
    };
    placed = w.placed;
    positive = full;
  }

  pub fails-missing : (i : ℕ) → i < length places → slice_index places i ≡ 0 → ¬ HasEachOnce (length places) order
  fails-missing i l none h =
      let all = h.each i ∙ ap (λ b. cond {A = ℕ} b 1 0) (lt-ltb i (length places) l) in
      let here = counts-all i ∙ ap (λ b. cond {A = ℕ} b 1 0) (le-ltb 0 (slice_index places i) (omega (arith, none))) in
      omega (arith, all, here)

-- ---- reorderings

module _ (trace : List Event) (order places : List ℕ) (w : ArePlaces (length trace) order places) where
  pub ArePlaces-within : (m : ℕ) → m < length order → slice_index order m < length trace
  ArePlaces-within m l =
      ⊎_elim (λ h. omega (arith, h, w.count)) (λ g. absurd (let none = get_or_past places (slice_index order m) 0 g in let some = w.placed m l in omega (arith, none, some)))
      (cases_lt (slice_index order m) (length places))

  pub IsReordering-places : KeepsConflicts trace places → IsReordering trace order
  IsReordering-places keeps = record {
    each_once = w.once.each;
    keeps_order = λ k l before within moved. false_from_ne_true _ (λ c.
        let lower = keeps.each (slice_index order l) (slice_index order k) moved c in
        let first = w.placed k (omega (arith, before, within)) in
        let second = w.placed l within in
        omega (arith, lower, first, second, before));
  }

  pub KeepsConflicts-places : IsReordering trace order → KeepsConflicts trace places
  KeepsConflicts-places r = record {
    each = λ i j l c.
        let inside = conflict_at-within trace i j c in
        let k = IsReordering-place trace order r i inside.0 in
        let m = IsReordering-place trace order r j inside.1 in
        let before = IsReordering-pair trace order r i j k.0 m.0 (l, c) k.1 m.1 k.2 m.2 in
        let first : slice_index places i ≡ k.0 + 1 = ap (slice_index places) (sym k.2) ∙ w.placed k.0 k.1 in
        let second : slice_index places j ≡ m.0 + 1 = ap (slice_index places) (sym m.2) ∙ w.placed m.0 m.1 in
        omega (arith, before, first, second);
  }

  module _ (owners : List ℕ) (are : AreOwners owners trace) where
    own : (m : ℕ) → m < length order → owner_at owners order m ≡ owner trace (slice_index order m)
    own m l = are.each (slice_index order m) (ArePlaces-within m l)

    pub IsSerial-together : AreTogether owners order → IsSerial trace order
    IsSerial-together t a j l m before after within first last =
        let at_j = own j (omega (arith, before, after, within)) in
        let at_l = own l (omega (arith, after, within)) in
        let at_m = own m within in
        let same = t.each j l m before after within (at_j ∙ (eqb-true _ a first ∙ (sym (eqb-true _ a last) ∙ sym at_m))) in
        eq-eqb _ a (sym at_l ∙ (same ∙ (at_m ∙ eqb-true _ a last)))

    pub AreTogether-serial : IsSerial trace order → AreTogether owners order
    AreTogether-serial s = record {
      each = λ j l m before after within same.
          let a = owner trace (slice_index order m) in
          let at_j = own j (omega (arith, before, after, within)) in
          let at_l = own l (omega (arith, after, within)) in
          let at_m = own m within in
          at_l ∙ (eqb-true _ a (s a j l m before after within (eq-eqb _ a (sym at_j ∙ (same ∙ at_m))) (eq-eqb a a refl)) ∙ sym at_m);
    }

-- ---- together

pub StandSoFar-start : (owners order : List ℕ) (begun : List Bool) → begun ≡ replicate (length owners) false → StandSoFar owners order 0 begun
StandSoFar-start owners order begun is = record {
  count = ap length is ∙ length-replicate (length owners) false;
  sound = λ a h. absurd (false≢true (sym (none a) ∙ h));
  complete = λ m l. absurd (omega (arith, l));
  together = λ j l m before after within same. absurd (omega (arith, within));
}
  where
    none : (a : ℕ) → slice_index_or begun a false ≡ false
    none a = ap (λ xs. slice_index_or xs a false) is
        ∙ ⊎_elim (λ l. get_or-replicate (length owners) a false false l) (λ g. get_or_past (replicate (length owners) false) a false (let long = length-replicate (length owners) false in omega (arith, g, long))) (cases_lt a (length owners))

module _ (owners order : List ℕ) (k : ℕ) (begun : List Bool) (w : StandSoFar owners order k begun) where
  abbrev pub own_here : ℕ
  own_here = owner_at owners order k

  -- the transaction of the place before goes on
  pub StandSoFar-goes_on : 0 < k → owner_at owners order (k - 1) ≡ own_here → StandSoFar owners order (k + 1) begun
  StandSoFar-goes_on later same = record {
    count = w.count;
    sound = λ b h. let v = w.sound b h in (v.0, omega (arith, v.1), v.2);
    complete = λ m l. ⊎_elim (λ before. w.complete m before)
        (λ last. subst (λ n. IsTrue (slice_index_or begun (owner_at owners order n) false)) (let here : k ≡ m = omega (arith, last, l) in here)
        (subst (λ b. IsTrue (slice_index_or begun b false)) same (w.complete (k - 1) (omega (arith, later))))) (cases_lt m k);
    together = λ j l m before after within e. ⊎_elim (λ old. w.together j l m before after old e)
        (λ last.
        let here : m ≡ k = omega (arith, last, within) in
        let at_m : owner_at owners order m ≡ own_here = ap (owner_at owners order) here in
        ⊎_elim (λ inner. w.together j l (k - 1) before inner (omega (arith, later)) (e ∙ (at_m ∙ sym same)) ∙ (same ∙ sym at_m))
        (λ next. let there : l ≡ k - 1 = omega (arith, next, after, here) in ap (owner_at owners order) there ∙ (same ∙ sym at_m)) (cases_lt l (k - 1)))
        (cases_lt m k);
  }

  -- a transaction begins that had not
  pub StandSoFar-begins : own_here < length begun → IsFalse (slice_index_or begun own_here false) → StandSoFar owners order (k + 1) (set begun own_here true)
  StandSoFar-begins inside new = record {
    count = length-set begun own_here true ∙ w.count;
    sound = λ b h. ⊎_elim
        (λ same. (k, omega arith, sym same))
        (λ other. let v = w.sound b (sym (get_or-set_other begun own_here b true false other) ∙ h) in (v.0, omega (arith, v.1), v.2))
        (cases_eq b own_here);
    complete = λ m l. ⊎_elim
        (λ before. kept (owner_at owners order m) (w.complete m before))
        (λ last. subst (λ n. IsTrue (slice_index_or (set begun own_here true) (owner_at owners order n) false)) (let here : k ≡ m = omega (arith, last, l) in here) (get_or-set_same begun own_here true false inside)) (cases_lt m k);
    together = λ j l m before after within e. ⊎_elim (λ old. w.together j l m before after old e)
        (λ last.
        let here : m ≡ k = omega (arith, last, within) in
        absurd (both_ways (slice_index_or begun own_here false) new (subst (λ b. IsTrue (slice_index_or begun b false)) (e ∙ ap (owner_at owners order) here) (w.complete j (omega (arith, before, after, here))))))
        (cases_lt m k);
  }
    where
      kept : (b : ℕ) → IsTrue (slice_index_or begun b false) → IsTrue (slice_index_or (set begun own_here true) b false)
      kept b h = ⊎_elim (λ same. ap (λ c. slice_index_or (set begun own_here true) c false) same ∙ get_or-set_same begun own_here true false inside) (λ other. get_or-set_other begun own_here b true false other ∙ h) (cases_eq b own_here)

  -- one that had begun, and does not go on
  pub fails-split : k < length order → (0 < k → owner_at owners order (k - 1) ≡ own_here → ⊥) → IsTrue (slice_index_or begun own_here false) → ¬ AreTogether owners order
  fails-split within other had t =
      let v = w.sound own_here had in
      let later : 0 < k = omega (arith, v.1) in
      let apart : v.0 ≢ k - 1 = λ e. other later (sym (ap (owner_at owners order) e) ∙ v.2) in
      ⊎_elim
      (λ before. other later (t.each v.0 (k - 1) k before (omega (arith, later)) within v.2))
      (λ g. apart (let same : v.0 ≡ k - 1 = omega (arith, g, v.1) in same))
      (cases_lt v.0 (k - 1))

pub AreTogether-end : (owners order : List ℕ) (begun : List Bool) → StandSoFar owners order (length order) begun → AreTogether owners order
AreTogether-end owners order begun w = record { each = w.together }

-- ---- the answer

-- what is said of an answer, said in other words
pub IfOk-map : {T E : Type 0} (P Q : T → Type 0) → ((x : T) → P x → Q x) → (r : Result T E) → IfOk r P → IfOk r Q
IfOk-map P Q h (Ok x) w = h x w
IfOk-map P Q h (Err e) w = w

pub serial-answer : (trace : List Event) (order places owners : List ℕ) → ArePlaces (length trace) order places → KeepsConflicts trace places → AreOwners owners trace → (yes : Bool) → IsTrue yes ↔ AreTogether owners order → IsTrue yes ↔ (IsReordering trace order × IsSerial trace order)
serial-answer trace order places owners w keeps are said together = (
  (λ h. (IsReordering-places trace order places w keeps, IsSerial-together trace order places w owners are (together.0 h))),
  (λ h. together.1 (AreTogether-serial trace order places w owners are h.1)),
)

pub owners-small : (trace : List Event) (owners : List ℕ) → AreOwners owners trace → (i : ℕ) → i < length owners → slice_index owners i < length owners
owners-small trace owners are i l =
    let is = are.each i (omega (arith, l, are.count)) in
    let most = owner-le trace i in
    omega (arith, is, most, l)

pub IfErr-map : {T E : Type 0} (P Q : E → Type 0) → ((e : E) → P e → Q e) → (r : Result T E) → IfErr r P → IfErr r Q
IfErr-map P Q h (Ok x) w = w
IfErr-map P Q h (Err e) w = h e w
