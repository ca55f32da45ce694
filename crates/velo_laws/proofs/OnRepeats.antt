-- Accesses that repeat earlier ones of their thread can go: the cycles stay.
use Rattle.std.proofs.Common.{◌≡◌, ℕ, zero, suc, ◌+◌, ◌-◌, ◌<◌, ◌≤◌, Bool, not, Option, Some, List, [], ◌∷◌, length, refl, sym, ap, ◌∙◌, subst, arith, ⊎_elim, inl, inr}
use Rattle.std.specs.Prelude.{◌↔◌, ◌⊎◌, ◌&&◌, ◌||◌, ◌==◌, slice_get, IsTrue, IsFalse}
use Rattle.std.proofs.lemmas.Bool.{cases_Bool, cases_eq, cases_lt, cases_order, and_parts, and_left, and_right, or_left, or_parts, both_ways, eqb-true, false≢true, false_from_ne_true, not-true}
use Rattle.velo_events.specs.declared.event.Event.{Event}
use Rattle.velo_events.specs.declared.event.Kind.{Kind}
use Rattle.velo_events.specs.declared.event.Kind.TheVariants.{Begin, End}
use Rattle.velo_events.specs.declared.event.Access.{Access}
use Rattle.velo_events.specs.declared.event.Access.TheVariants.{Shared, Exclusive}
use Rattle.velo_events.specs.Event.{are_same, thread_of, access_of, cell_of, forked_or_joined_of, thread_forked_or_joined, is_by, is_begin, is_end, is_begin_by, is_end_by, is_exclusive, is_shared, is_writing, is_reading}
use Rattle.velo_events.specs.Conflict.{conflict}
use Rattle.velo_events.specs.Block.{passes_at, is_open_at, is_in_block, owner}
use Rattle.velo_events.specs.Graph.{Path, Leads, IsCycle, Edge, HasCycle, conflict_at}
use Rattle.velo_events.specs.Scan.{IsOpenAt}
use Rattle.velo_events.proofs.OnScans.{event_at, passes_at-event, passes_at-is, owner-owner, IsOpenAt-from, IsOpenAt-to, IsOpenAt-more, IsOpenAt-positive, begins-other, ends-other}
use Rattle.velo_events.proofs.OnBlocks.{owner-le, owner-in_block, owner-first}
use Rattle.velo_events.proofs.OnOwners.{passes_at-one_thread, passes_at-within, owner-between, is_in_block-parts, is_in_block-open, is_open_at-begins}
use Rattle.velo_events.proofs.OnLookUps.{are_same-some}
use Rattle.velo_events.proofs.OnHappening.{ConflictsInOrder-same_thread}
use Rattle.velo_events.proofs.OnGraphs.{Leads-trans}
use Rattle.velo_filter.proofs.OnRanks.{rank-lt, rank-one}
use Rattle.velo_filter.proofs.OnRestricted.{conflict-sub}
use Rattle.velo_laws.specs.Repeats.{IsAlike, Repeats, AreRepeats, without}
use Rattle.velo_laws.proofs.OnOrderedPlaces.{conflict-is}
use Rattle.velo_laws.proofs.OnOrderedGraphs.{owner-by, HasCycle-around}
use Rattle.velo_laws.proofs.OnDropped.{sub, at, sub-long, begin-stays, owner-stays, owner-sub, cycle-log}

-- ---- two events of the same thread that do the same

exclusive-handles : (a : Access) → IsTrue (is_exclusive a) → forked_or_joined_of a ≡ Option.None
exclusive-handles (Exclusive c) h = refl
exclusive-handles _ h = absurd (false≢true h)

shared-handles : (a : Access) → IsTrue (is_shared a) → forked_or_joined_of a ≡ Option.None
shared-handles (Shared c) h = refl
shared-handles _ h = absurd (false≢true h)

shared-exclusive : (a : Access) → IsTrue (is_shared a) → IsFalse (is_exclusive a)
shared-exclusive (Shared c) h = refl
shared-exclusive _ h = absurd (false≢true h)

exclusive-inner : (k : Kind) → IsTrue (is_exclusive (access_of k)) → IsFalse (is_begin k || is_end k)
exclusive-inner (Begin l) h = absurd (false≢true h)
exclusive-inner End h = absurd (false≢true h)
exclusive-inner _ h = refl

shared-inner : (k : Kind) → IsTrue (is_shared (access_of k)) → IsFalse (is_begin k || is_end k)
shared-inner (Begin l) h = absurd (false≢true h)
shared-inner End h = absurd (false≢true h)
shared-inner _ h = refl

pub record DoSame (e f : Event) : Type 0 where
  pub threads : thread_of e ≡ thread_of f
  pub cells : cell_of (access_of e.kind) ≡ cell_of (access_of f.kind)
  pub exclusive : is_exclusive (access_of e.kind) ≡ is_exclusive (access_of f.kind)
  pub handled : thread_forked_or_joined e.kind ≡ thread_forked_or_joined f.kind
  pub first_inner : IsFalse (is_begin e.kind || is_end e.kind)
  pub inner : IsFalse (is_begin f.kind || is_end f.kind)

first_words : ℕ → Option ℕ → Bool → Option ℕ → Event → Bool
first_words t c x h g = (t == thread_of g) || (are_same c (cell_of (access_of g.kind)) && (x || is_exclusive (access_of g.kind))) || are_same h (Some (thread_of g)) || are_same (thread_forked_or_joined g.kind) (Some t)

second_words : ℕ → Option ℕ → Bool → Option ℕ → Event → Bool
second_words t c x h g = (thread_of g == t) || (are_same (cell_of (access_of g.kind)) c && (is_exclusive (access_of g.kind) || x)) || are_same (thread_forked_or_joined g.kind) (Some t) || are_same h (Some (thread_of g))

four : (W : ℕ → Option ℕ → Bool → Option ℕ → Event → Bool) (e f g : Event) → DoSame e f
    → W (thread_of e) (cell_of (access_of e.kind)) (is_exclusive (access_of e.kind)) (thread_forked_or_joined e.kind) g ≡ W (thread_of f) (cell_of (access_of f.kind)) (is_exclusive (access_of f.kind)) (thread_forked_or_joined f.kind) g
four W e f g s =
    ap (λ t. W t (cell_of (access_of e.kind)) (is_exclusive (access_of e.kind)) (thread_forked_or_joined e.kind) g) s.threads
    ∙ (ap (λ c. W (thread_of f) c (is_exclusive (access_of e.kind)) (thread_forked_or_joined e.kind) g) s.cells
    ∙ (ap (λ x. W (thread_of f) (cell_of (access_of f.kind)) x (thread_forked_or_joined e.kind) g) s.exclusive
    ∙ ap (λ h. W (thread_of f) (cell_of (access_of f.kind)) (is_exclusive (access_of f.kind)) h g) s.handled))

conflict-first : (e f g : Event) → DoSame e f → conflict e g ≡ conflict f g
unfolding first_words
conflict-first e f g s = four first_words e f g s

conflict-second : (e f g : Event) → DoSame e f → conflict g e ≡ conflict g f
unfolding second_words
conflict-second e f g s = four second_words e f g s

module _ (log : List Event) where
  pub do_same : (i j : ℕ) (e f : Event) → slice_get log i ≡ Some e → slice_get log j ≡ Some f → IsAlike log i j → DoSame e f
  do_same i j e f at_i at_j w = ⊎_elim
      (λ p.
      let x = and_parts (is_exclusive (access_of e.kind)) (are_same (cell_of (access_of e.kind)) (Some w.cell)) (sym (passes_at-is log (is_writing w.cell) i e at_i) ∙ p.0) in
      let y = and_parts (is_exclusive (access_of f.kind)) (are_same (cell_of (access_of f.kind)) (Some w.cell)) (sym (passes_at-is log (is_writing w.cell) j f at_j) ∙ p.1) in
      record {
        threads = threads;
        cells = are_same-some (cell_of (access_of e.kind)) w.cell x.1 ∙ sym (are_same-some (cell_of (access_of f.kind)) w.cell y.1);
        exclusive = x.0 ∙ sym y.0;
        handled = exclusive-handles (access_of e.kind) x.0 ∙ sym (exclusive-handles (access_of f.kind) y.0);
        first_inner = exclusive-inner e.kind x.0;
        inner = exclusive-inner f.kind y.0;
      })
      (λ p.
      let x = and_parts (is_shared (access_of e.kind)) (are_same (cell_of (access_of e.kind)) (Some w.cell)) (sym (passes_at-is log (is_reading w.cell) i e at_i) ∙ p.0) in
      let y = and_parts (is_shared (access_of f.kind)) (are_same (cell_of (access_of f.kind)) (Some w.cell)) (sym (passes_at-is log (is_reading w.cell) j f at_j) ∙ p.1) in
      record {
        threads = threads;
        cells = are_same-some (cell_of (access_of e.kind)) w.cell x.1 ∙ sym (are_same-some (cell_of (access_of f.kind)) w.cell y.1);
        exclusive = shared-exclusive (access_of e.kind) x.0 ∙ sym (shared-exclusive (access_of f.kind) y.0);
        handled = shared-handles (access_of e.kind) x.0 ∙ sym (shared-handles (access_of f.kind) y.0);
        first_inner = shared-inner e.kind x.0;
        inner = shared-inner f.kind y.0;
      })
      w.same
    where
      threads : thread_of e ≡ thread_of f
      threads = eqb-true (thread_of e) w.thread (sym (passes_at-is log (is_by w.thread) i e at_i) ∙ w.own_first) ∙ sym (eqb-true (thread_of f) w.thread (sym (passes_at-is log (is_by w.thread) j f at_j) ∙ w.own))

  alike-first : (i j k : ℕ) → k < length log → IsAlike log i j → conflict_at log i k ≡ conflict_at log j k
  alike-first i j k l w =
      let e = event_at log i (passes_at-within log (is_by w.thread) i w.own_first) in
      let f = event_at log j (passes_at-within log (is_by w.thread) j w.own) in
      let g = event_at log k l in
      conflict-is log i k e.0 g.0 e.1 g.1 ∙ (conflict-first e.0 f.0 g.0 (do_same i j e.0 f.0 e.1 f.1 w) ∙ sym (conflict-is log j k f.0 g.0 f.1 g.1))

  alike-second : (i j k : ℕ) → k < length log → IsAlike log i j → conflict_at log k i ≡ conflict_at log k j
  alike-second i j k l w =
      let e = event_at log i (passes_at-within log (is_by w.thread) i w.own_first) in
      let f = event_at log j (passes_at-within log (is_by w.thread) j w.own) in
      let g = event_at log k l in
      conflict-is log k i g.0 e.0 g.1 e.1 ∙ (conflict-second e.0 f.0 g.0 (do_same i j e.0 f.0 e.1 f.1 w) ∙ sym (conflict-is log k j g.0 f.0 g.1 f.1))

module _ (goes : ℕ → Bool) (log : List Event) (repeats : AreRepeats goes log) where
  abbrev pub H : ℕ → Type 0
  H i = IsFalse (goes i)

  abbrev G : ℕ → Type 0
  G i = IsTrue (goes i)

  abbrev pub stays : ℕ → Bool
  stays i = not (goes i)

  pub here : (i : ℕ) → H i → IsTrue (stays i)
  here i h = ap not h

  pub back : (i : ℕ) → IsTrue (stays i) → H i
  back i h = not-true (goes i) h

  not_both : {X : Type 0} (i : ℕ) → H i → G i → X
  not_both i h g = absurd (both_ways (goes i) h g)

  goes-inner : (i : ℕ) (e : Event) → slice_get log i ≡ Some e → G i → IsFalse (is_begin e.kind || is_end e.kind)
  goes-inner i e at_i g =
      let w = repeats i g in
      let f = event_at log w.first (passes_at-within log (is_by w.alike.thread) w.first w.alike.own_first) in
      (do_same log w.first i f.0 e f.1 at_i w.alike).inner

  pub blocks : (i : ℕ) (e : Event) → slice_get log i ≡ Some e → IsTrue (is_begin e.kind || is_end e.kind) → IsTrue (stays i)
  blocks i e at_i h = here i (false_from_ne_true _ (λ g. both_ways (is_begin e.kind || is_end e.kind) (goes-inner i e at_i g) h))

  abbrev pub what : List Event
  what = sub log stays blocks

  abbrev pub on : ℕ → ℕ
  on i = at log stays blocks i

  -- ---- what stands for a position

  abbrev pub IsFor : ℕ → ℕ → Type 0
  IsFor j i = (H j × (j ≡ i)) ⊎ ((w : Repeats goes log j) × (w.first ≡ i) × G j)

  pub rep : (j : ℕ) → (i : ℕ) × IsFor j i
  rep j = ⊎_elim (λ g. ((repeats j g).first, inr (repeats j g, refl, g))) (λ h. (j, inl (h, refl))) (cases_Bool (goes j))

  pub for-le : (j i : ℕ) → IsFor j i → i ≤ j
  for-le j i r = ⊎_elim (λ w. let e = w.1 in omega (arith, e)) (λ w. let l = w.0.in_order in let e = w.1 in omega (arith, l, e)) r

  pub for-here : (j i : ℕ) → IsFor j i → H i
  for-here j i r = ⊎_elim (λ w. subst H w.1 w.0) (λ w. subst H w.1 w.0.first_stays) r

  for-first : (j i k : ℕ) → k < length log → IsFor j i → conflict_at log i k ≡ conflict_at log j k
  for-first j i k l r = ⊎_elim (λ w. ap (λ m. conflict_at log m k) (sym w.1)) (λ w. ap (λ m. conflict_at log m k) (sym w.1) ∙ alike-first log w.0.first j k l w.0.alike) r

  for-second : (j i k : ℕ) → k < length log → IsFor j i → conflict_at log k i ≡ conflict_at log k j
  for-second j i k l r = ⊎_elim (λ w. ap (conflict_at log k) (sym w.1)) (λ w. ap (conflict_at log k) (sym w.1) ∙ alike-second log w.0.first j k l w.0.alike) r

  -- nothing that stays stands between and conflicts
  for-between : (j i k : ℕ) → IsFor j i → i < k → k < j → IsTrue (conflict_at log k j) → G k
  for-between j i k r l m c = ⊎_elim (λ w. let e = w.1 in absurd (omega (arith, e, l, m))) (λ w. w.0.between k (let e = w.1 in omega (arith, e, l)) m c) r

  -- conflicts are kept, or fall together
  pub for-conflict : (f g f' g' : ℕ) → f < g → g < length log → IsTrue (conflict_at log f g) → IsFor f f' → IsFor g g' → (f' ≡ g') ⊎ ((f' < g') × IsTrue (conflict_at log f' g'))
  for-conflict f g f' g' less within c rf rg = ⊎_elim
      (λ same. inl same)
      (⊎_elim
      (λ l. inr (l, there))
      (λ l. absurd (two f' (for-here f f' rf) (let m = for-le f f' rf in omega (arith, m, less)) first-conflict l)))
      (cases_order f' g')
    where
      in_f : f < length log
      in_f = omega (arith, less, within)

      in_f' : f' < length log
      in_f' = let m = for-le f f' rf in omega (arith, m, less, within)

      first-conflict : IsTrue (conflict_at log f' g)
      first-conflict = for-first f f' g within rf ∙ c

      there : IsTrue (conflict_at log f' g')
      there = for-second g g' f' in_f' rg ∙ first-conflict

      two : (k : ℕ) → H k → k < g → IsTrue (conflict_at log k g) → g' < k → ⊥
      two k h l c m = not_both k h (for-between g g' k rg m l c)

  -- ---- transactions

  by-owner : (j i : ℕ) → j < length log → IsFor j i → IsFor (owner log j) (owner log i)
  by-owner j i within r = ⊎_elim
      (λ w. inl (back (owner log j) (owner-stays log stays blocks j (here j w.0)), ap (owner log) w.1))
      (λ w. subst (λ k. IsFor (owner log j) (owner log k)) w.1 (repeated w.0 w.2))
      r
    where
      repeated : (w : Repeats goes log j) → G j → IsFor (owner log j) (owner log w.first)
      repeated w g = ⊎_elim inside outside (cases_lt (owner log j) j)
        where
          in_i : w.first < length log
          in_i = passes_at-within log (is_by w.alike.thread) w.first w.alike.own_first

          -- an event of the thread from the first on, before j, neither begins nor ends a block
          quiet : (k : ℕ) (e : Event) → slice_get log k ≡ Some e → w.first ≤ k → k < j → IsTrue (is_by w.alike.thread e) → IsFalse (is_begin e.kind || is_end e.kind)
          quiet k e at_k from l own = ⊎_elim
              (λ m. goes-inner k e at_k (w.between k m l (ConflictsInOrder-same_thread log w.alike.thread k j l (passes_at-is log (is_by w.alike.thread) k e at_k ∙ own) w.alike.own).1))
              (λ m.
              let same : w.first ≡ k = omega (arith, from, m) in
              let f = event_at log j within in
              (do_same log w.first j e f.0 (ap (slice_get log) same ∙ at_k) f.1 w.alike).first_inner)
              (cases_lt w.first k)

          inside : owner log j < j → IsFor (owner log j) (owner log w.first)
          inside l = inl (stay, sym one)
            where
              stay : H (owner log j)
              stay = back (owner log j) (begin-stays log stays blocks (owner log j) j (owner-in_block log j l))

              own_b : IsTrue (passes_at log (is_by w.alike.thread) (owner log j))
              own_b = owner-by log w.alike.thread j w.alike.own

              begun : IsTrue (passes_at log (λ e. is_begin e.kind) (owner log j))
              begun = let p = is_in_block-parts log (owner log j) j (owner-in_block log j l) in is_open_at-begins log p.1.0 (owner log j) j p.1.2

              before : owner log j < w.first
              before = ⊎_elim (λ m. m)
                  (λ m. absurd (
                  let e = passes_at-event log (λ e. is_begin e.kind) (owner log j) begun in
                  both_ways (is_begin e.0.kind || is_end e.0.kind)
                  (quiet (owner log j) e.0 e.1 m l (sym (passes_at-is log (is_by w.alike.thread) (owner log j) e.0 e.1) ∙ own_b))
                  (or_left (is_begin e.0.kind) (is_end e.0.kind) e.2)))
                  (cases_lt (owner log j) w.first)

              one : owner log w.first ≡ owner log j
              one = owner-between log w.alike.thread (owner log j) w.first j l (omega (arith, before)) (let o = w.in_order in omega (arith, o)) w.alike.own_first w.alike.own (owner-owner log j within)

          outside : j ≤ owner log j → IsFor (owner log j) (owner log w.first)
          outside m = subst (λ k. IsFor k (owner log w.first)) (let most = owner-le log j in let e : j ≡ owner log j = omega (arith, most, m) in e)
              (subst (IsFor j) (sym alone) (inr (w, refl, g)))
            where
              open_on : (b n : ℕ) → b < w.first → n + w.first ≤ j → IsOpenAt log w.alike.thread b w.first → IsOpenAt log w.alike.thread b (n + w.first)
              open_on b zero less upto o = subst (IsOpenAt log w.alike.thread b) (let e : w.first ≡ 0 + w.first = omega arith in e) o
              open_on b (suc n) less upto o =
                  let before = open_on b n less (omega (arith, upto)) o in
                  let k = n + w.first in
                  let e = event_at log k (omega (arith, upto, within)) in
                  let none : IsFalse (is_begin_by w.alike.thread e.0) × IsFalse (is_end_by w.alike.thread e.0) = ⊎_elim
                  (λ own. let q = quiet k e.0 e.1 (omega arith) (omega (arith, upto)) own in (
                    and_right (is_by w.alike.thread e.0) (is_begin e.0.kind) (or_parts (is_begin e.0.kind) (is_end e.0.kind) q).0,
                    and_right (is_by w.alike.thread e.0) (is_end e.0.kind) (or_parts (is_begin e.0.kind) (is_end e.0.kind) q).1,
                  ))
                  (λ other. (and_left (is_by w.alike.thread e.0) (is_begin e.0.kind) other, and_left (is_by w.alike.thread e.0) (is_end e.0.kind) other))
                  (cases_Bool (is_by w.alike.thread e.0)) in
                  let more = IsOpenAt-positive log w.alike.thread b k before (omega (arith, less)) (omega (arith, upto, within)) in
                  let b1 = begins-other log w.alike.thread k e.0 e.1 none.0 in
                  let e1 = ends-other log w.alike.thread k e.0 e.1 none.1 in
                  subst (IsOpenAt log w.alike.thread b) (let one : k + 1 ≡ suc n + w.first = omega arith in one)
                  (IsOpenAt-more log w.alike.thread b k before (λ same. omega (arith, more, b1, e1, same)))

              alone : owner log w.first ≡ w.first
              alone = ⊎_elim
                  (λ l.
                  let b = owner log w.first in
                  let p = is_in_block-parts log b w.first (owner-in_block log w.first l) in
                  let o = subst (λ u. IsTrue (is_open_at log u b w.first)) (passes_at-one_thread log p.1.0 w.alike.thread w.first p.1.1 w.alike.own_first) p.1.2 in
                  let far = w.in_order in
                  let n = j - w.first in
                  let on_to = open_on b n l (omega (arith, far)) (IsOpenAt-from log w.alike.thread b w.first o) in
                  let to_j = subst (IsOpenAt log w.alike.thread b) (let e : n + w.first ≡ j = omega (arith, far) in e) on_to in
                  absurd (both_ways (is_in_block log b j) (owner-first log j b (omega (arith, l, far, m)))
                  (is_in_block-open log w.alike.thread b j j (IsOpenAt-to log w.alike.thread b j to_j) (omega (arith, l, far)) (omega arith) w.alike.own)))
                  (λ l. let most = owner-le log w.first in omega (arith, l, most))
                  (cases_lt (owner log w.first) w.first)

  -- there is one
  for-one : (a x y : ℕ) → IsFor a x → IsFor a y → x ≡ y
  for-one a x y r s = ⊎_elim
      (λ w. ⊎_elim (λ v. sym w.1 ∙ v.1) (λ v. not_both a w.0 v.2) s)
      (λ w. ⊎_elim (λ v. not_both a v.0 w.2)
      (λ v. ⊎_elim (λ e. e) (⊎_elim
      (λ l. not_both y (for-here a y s) (w.0.between y (let e = w.1 in omega (arith, l, e)) (let o = v.0.in_order in let e = v.1 in omega (arith, o, e))
      (subst (λ k. IsTrue (conflict_at log k a)) v.1 (ConflictsInOrder-same_thread log v.0.alike.thread v.0.first a v.0.in_order v.0.alike.own_first v.0.alike.own).1)))
      (λ l. not_both x (for-here a x r) (v.0.between x (let e = v.1 in omega (arith, l, e)) (let o = w.0.in_order in let e = w.1 in omega (arith, o, e))
      (subst (λ k. IsTrue (conflict_at log k a)) w.1 (ConflictsInOrder-same_thread log w.0.alike.thread w.0.first a w.0.in_order w.0.alike.own_first w.0.alike.own).1))))
      (cases_order x y)) s) r

  -- ---- edges and cycles

  edge-for : (a b x y : ℕ) → Edge log a b → IsFor a x → IsFor b y → (x ≡ y) ⊎ Edge what (on x) (on y)
  edge-for a b x y e ra rb =
      let f = rep e.from in
      let g = rep e.to in
      let in_f : e.from < length log = (let l = e.in_order in let m = e.in_trace in omega (arith, l, m)) in
      let own_f : owner log f.0 ≡ x = for-one a (owner log f.0) x (subst (λ k. IsFor k (owner log f.0)) e.of_from (by-owner e.from f.0 in_f f.1)) ra in
      let own_g : owner log g.0 ≡ y = for-one b (owner log g.0) y (subst (λ k. IsFor k (owner log g.0)) e.of_to (by-owner e.to g.0 e.in_trace g.1)) rb in
      let in_f' : f.0 < length log = (let m = for-le e.from f.0 f.1 in omega (arith, m, in_f)) in
      let in_g' : g.0 < length log = (let m = for-le e.to g.0 g.1 in let l = e.in_trace in omega (arith, m, l)) in
      let h_f = here f.0 (for-here e.from f.0 f.1) in
      let h_g = here g.0 (for-here e.to g.0 g.1) in
      ⊎_elim
      (λ same. inl (sym own_f ∙ (ap (owner log) same ∙ own_g)))
      (λ w. ⊎_elim (λ same. inl same)
      (λ differ. inr (record {
        from = on f.0;
        to = on g.0;
        in_order = rank-lt stays f.0 g.0 h_f w.0;
        in_trace = (let l = rank-lt stays g.0 (length log) h_g in_g' in let s = sub-long log stays blocks in omega (arith, l, s));
        in_conflict = conflict-sub log stays f.0 g.0 in_f' in_g' h_f h_g ∙ w.1;
        of_from = owner-sub log stays blocks f.0 in_f' h_f ∙ ap on own_f;
        of_to = owner-sub log stays blocks g.0 in_g' h_g ∙ ap on own_g;
        differ = λ same. differ (rank-one stays x y (here x (for-here a x ra)) (here y (for-here b y rb)) same);
      }))
      (cases_eq x y))
      (for-conflict e.from e.to f.0 g.0 e.in_order e.in_trace e.in_conflict f.1 g.1)

  -- a transaction that begins with an access is this alone
  alone : (f a : ℕ) → owner log f ≡ a → ((e : Event) → slice_get log a ≡ Some e → IsFalse (is_begin e.kind || is_end e.kind)) → f ≡ a
  alone f a own inner = ⊎_elim
      (λ l.
      let p = is_in_block-parts log (owner log f) f (owner-in_block log f l) in
      let e = passes_at-event log (λ e. is_begin e.kind) (owner log f) (is_open_at-begins log p.1.0 (owner log f) f p.1.2) in
      absurd (both_ways (is_begin e.0.kind || is_end e.0.kind) (inner e.0 (ap (slice_get log) (sym own) ∙ e.1)) (or_left (is_begin e.0.kind) (is_end e.0.kind) e.2)))
      (λ g. let most = owner-le log f in omega (arith, g, most, own))
      (cases_lt (owner log f) f)

  -- where an edge falls together it rises
  falls : (a b x : ℕ) → Edge log a b → IsFor a x → IsFor b x → a < b
  falls a b x e ra rb = ⊎_elim
      (λ w. ⊎_elim
      (λ v. absurd (e.differ (w.1 ∙ sym v.1)))
      (λ v. let l = v.0.in_order in let i = v.1 in let j = w.1 in omega (arith, l, i, j)) rb)
      (λ w.
      let f = alone e.from a e.of_from (λ g at_a. goes-inner a g at_a w.2) in
      ⊎_elim
      (λ v.
      let at_b : w.0.first ≡ b = w.1 ∙ sym v.1 in
      let g = alone e.to b e.of_to (λ h at_h.
      let k = event_at log a (let l = e.in_order in let m = e.in_trace in omega (arith, f, l, m)) in
      (do_same log w.0.first a h k.0 (ap (slice_get log) at_b ∙ at_h) k.1 w.0.alike).first_inner) in
      let l = w.0.in_order in let m = e.in_order in absurd (omega (arith, f, g, l, m, at_b)))
      (λ v. let g = alone e.to b e.of_to (λ h at_h. goes-inner b h at_h v.2) in let m = e.in_order in omega (arith, f, g, m)) rb) ra

  step-for : (a b x y : ℕ) → Edge log a b → IsFor a x → IsFor b y → Leads (Edge what) (on x) (on y) ⊎ ((x ≡ y) × (a < b))
  step-for a b x y p ra rb = ⊎_elim (λ same. inr (same, falls a b x p ra (subst (IsFor b) (sym same) rb))) (λ e. inl ([], e)) (edge-for a b x y p ra rb)

  path-for : (a : ℕ) (between : List ℕ) (b x y : ℕ) → Path (Edge log) a between b → IsFor a x → IsFor b y → Leads (Edge what) (on x) (on y) ⊎ ((x ≡ y) × (a < b))
  path-for a [] b x y p ra rb = step-for a b x y p ra rb
  path-for a (c ∷ cs) b x y p ra rb =
      let m = rep c in
      join m.0 (step-for a c x m.0 p.0 ra m.1) (path-for c cs b m.0 y p.1 m.1 rb)
    where
      join : (m : ℕ) → Leads (Edge what) (on x) (on m) ⊎ ((x ≡ m) × (a < c)) → Leads (Edge what) (on m) (on y) ⊎ ((m ≡ y) × (c < b)) → Leads (Edge what) (on x) (on y) ⊎ ((x ≡ y) × (a < b))
      join m first rest = ⊎_elim
          (λ w. ⊎_elim (λ v. inl (Leads-trans (Edge what) (on x) (on m) (on y) w v)) (λ v. inl (subst (λ k. Leads (Edge what) (on x) (on k)) v.0 w)) rest)
          (λ w. ⊎_elim (λ v. inl (subst (λ k. Leads (Edge what) (on k) (on y)) (sym w.0) v)) (λ v. inr (w.0 ∙ v.0, (let l = w.1 in let n = v.1 in omega (arith, l, n)))) rest)
          first

  cycle-kept : HasCycle log → HasCycle what
  cycle-kept c = go c.cycle c.is_cycle
    where
      go : (cycle : List ℕ) → IsCycle (Edge log) cycle → HasCycle what
      go [] h = absurd h
      go (a ∷ []) h = absurd h
      go (a ∷ b ∷ more) h =
          let r = rep a in
          ⊎_elim (λ w. HasCycle-around what (on r.0) w) (λ w. let l = w.1 in absurd (omega (arith, l))) (path-for a (b ∷ more) a r.0 r.0 h r.1 r.1)

  pub repeat_law : HasCycle log ↔ HasCycle (without goes log)
  repeat_law = (cycle-kept, cycle-log log stays blocks)
