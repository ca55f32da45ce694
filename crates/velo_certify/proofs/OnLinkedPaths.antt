-- Chains of links stand for all edges.
use Rattle.std.proofs.Common.{◌≡◌, ◌≢◌, ℕ, zero, suc, ◌+◌, ◌-◌, ◌<◌, ◌≤◌, Bool, List, [], ◌∷◌, length, Some, refl, sym, ap, ◌∙◌, subst, arith, ⊎_elim, inl, inr}
use Rattle.std.specs.Prelude.{◌⊎◌, ◌||◌, slice_get, IsTrue, IsFalse}
use Rattle.std.proofs.lemmas.Bool.{cases_Bool, cases_eq, cases_lt, or_cases, eqb-true, eq-eqb, and_parts, both_ways, false≢true}
use Rattle.std.proofs.lemmas.Option.{slice_get-get_or}
use Rattle.velo_events.specs.declared.event.Event.{Event}
use Rattle.velo_events.specs.declared.event.Access.{Access}
use Rattle.velo_events.specs.declared.event.Access.TheVariants.{Shared, Exclusive, Nothing}
use Rattle.velo_events.specs.About.{is_about, thread_in, written_in, cell_written}
use Rattle.velo_events.specs.Conflict.{conflict}
use Rattle.velo_events.specs.Event.{thread_of, are_same, access_of, cell_of, is_exclusive, forked_or_joined_of}
use Rattle.velo_events.specs.Block.{owner, passes_at}
use Rattle.velo_events.specs.Graph.{conflict_at, Edge, Path, Reaches}
use Rattle.velo_events.proofs.OnGraphs.{Reaches-trans}
use Rattle.velo_events.proofs.OnReorderings.{conflict_at-within}
use Rattle.velo_events.proofs.OnScans.{passes_at-is}
use Rattle.velo_traces.proofs.Past.{past}
use Rattle.velo_certify.specs.Links.{is_weak, IsLast, IsFirst, LinksBack, LinksSoFar}
use Rattle.velo_certify.specs.Owners.{event_at}
use Rattle.velo_certify.specs.Serial.{has, IsFree}
use Rattle.velo_traces.specs.Numbers.{strong_for}
use Rattle.velo_certify.proofs.OnLinks.{edge-into, edge-out, conflicts-own, conflicts-strong}

-- a position is linked to a later one of another transaction
pub record Linked (trace : List Event) (b a : ℕ) : Type 0 where
  pub from : ℕ
  pub to : ℕ
  pub in_trace : to < length trace
  pub link : LinksSoFar trace (length trace) 0 from to
  pub of_from : owner trace from ≡ b
  pub of_to : owner trace to ≡ a
  pub differ : b ≢ a

conflict-of : (trace : List Event) (i j : ℕ) (e f : Event) → slice_get trace i ≡ Some e → slice_get trace j ≡ Some f → IsTrue (conflict_at trace i j) → IsTrue (conflict e f)
unfolding conflict_at
conflict-of trace i j e f at_i at_j h = rw (at_i, at_j) at h

module _ (trace : List Event) where
  abbrev Joined : ℕ → ℕ → Type 0
  Joined i j = Reaches (Linked trace) (owner trace i) (owner trace j)

  joined-by : (i j : ℕ) → j < length trace → LinksSoFar trace (length trace) 0 i j → Joined i j
  joined-by i j within link = ⊎_elim (λ same. inl same)
      (λ differ. inr ([], record { from = i; to = j; in_trace = within; link = link; of_from = refl; of_to = refl; differ = differ }))
      (cases_eq (owner trace i) (owner trace j))

  joined-then : (i j k : ℕ) → Joined i j → Joined j k → Joined i k
  joined-then i j k p q = Reaches-trans (Linked trace) (owner trace i) (owner trace j) (owner trace k) p q

  -- ---- the last and the first that pass a test

  last-in : (test : Event → Bool) (i j : ℕ) (gap : ℕ) → i + suc gap ≡ j → IsTrue (passes_at trace test i) → (k : ℕ) × (i ≤ k) × IsLast trace test k j
  last-in test i j zero is h = (i, omega arith, record { before = omega (arith, is); passes = h; none = λ k l u. absurd (omega (arith, l, u, is)) })
  last-in test i j (suc gap) is h =
      ⊎_elim
      (λ no.
      let w = last-in test i (i + suc gap) gap refl h in (
        w.0,
        w.1,
        record {
          before = let b = w.2.before in omega (arith, b, is);
          passes = w.2.passes;
          none = λ k l u. ⊎_elim (λ under. w.2.none k l under) (λ at. subst (λ n. IsFalse (passes_at trace test n)) (let same : i + suc gap ≡ k = omega (arith, at, u, is) in same) no) (cases_lt k (i + suc gap));
        },
      ))
      (λ yes. (i + suc gap, omega arith, record { before = omega (arith, is); passes = yes; none = λ k l u. absurd (omega (arith, l, u, is)) }))
      (either (passes_at trace test (i + suc gap)))
    where
      either : (b : Bool) → IsFalse b ⊎ IsTrue b
      either b = ⊎_elim (λ t. inr t) (λ f. inl f) (cases_Bool b)

  first-in : (test : Event → Bool) (i j : ℕ) (gap : ℕ) → i + suc gap ≡ j → IsTrue (passes_at trace test j) → (k : ℕ) × (k ≤ j) × IsFirst trace test i k
  first-in test i j gap is h = from gap (i + 1) (omega arith) (omega (arith, is)) (λ k l u. absurd (omega (arith, l, u)))
    where
      from : (left at : ℕ) → i < at → at + left ≡ j → ((k : ℕ) → i < k → k < at → IsFalse (passes_at trace test k)) → (k : ℕ) × (k ≤ j) × IsFirst trace test i k
      from zero at after to none =
          let same : j ≡ at = omega (arith, to) in
          (at, omega (arith, same), record { after = after; passes = subst (λ n. IsTrue (passes_at trace test n)) same h; none = none })
      from (suc left) at after to none = ⊎_elim
          (λ yes. (at, omega (arith, to), record { after = after; passes = yes; none = none }))
          (λ no. from left (at + 1) (omega (arith, after)) (omega (arith, to)) (λ k l u. ⊎_elim (λ under. none k l under) (λ more. subst (λ n. IsFalse (passes_at trace test n)) (let same : at ≡ k = omega (arith, more, u) in same) no) (cases_lt k at)))
          (cases_Bool (passes_at trace test at))

  -- ---- a thing all of whose changes are linked one after another

  module _ (test : Event → Bool) (chains : (k j : ℕ) → j < length trace → IsTrue (passes_at trace test j) → IsLast trace test k j → LinksBack trace k j) where
    back : (k j : ℕ) → j < length trace → LinksBack trace k j → Joined k j
    back k j within link = joined-by k j within (inl (within, link))

    chain : (fuel i j : ℕ) → j ≤ i + fuel → i < j → j < length trace → IsTrue (passes_at trace test i) → IsTrue (passes_at trace test j) → Joined i j
    chain zero i j most l within at_i at_j = absurd (omega (arith, most, l))
    chain (suc fuel) i j most l within at_i at_j =
        let w = last-in test i j (j - suc i) (omega (arith, l)) at_i in
        let before = w.2.before in
        let step = back w.0 j within (chains w.0 j within at_j w.2) in
        ⊎_elim
        (λ more. joined-then i w.0 j (chain fuel i w.0 (omega (arith, before, most)) more (omega (arith, before, within)) at_i w.2.passes) step)
        (λ h. subst (λ k. Joined k j) (let same : w.0 ≡ i = let up = w.1 in omega (arith, h, up) in same) step)
        (cases_lt i w.0)

    -- from a change on
    from_change : (i j : ℕ) → i ≤ j → j < length trace → IsTrue (passes_at trace test i) → IsTrue (passes_at trace test j) → Joined i j
    from_change i j l within at_i at_j = ⊎_elim (λ more. chain j i j (omega arith) more within at_i at_j)
        (λ h. subst (Joined i) (let same : i ≡ j = omega (arith, h, l) in same) (inl refl)) (cases_lt i j)

    -- to what is about the thing
    to_user : (i j : ℕ) → i < j → j < length trace → IsTrue (passes_at trace test i) → strong_for (access_of (event_at trace j).kind) ≡ test → Joined i j
    to_user i j l within at_i about =
        let w = last-in test i j (j - suc i) (omega (arith, l)) at_i in
        let before = w.2.before in
        joined-then i w.0 j (from_change i w.0 w.1 (omega (arith, before, within)) at_i w.2.passes)
        (back w.0 j within (inr (subst (λ t. IsLast trace t w.0 j) (sym about) w.2)))

    -- and from what is about it and does not change it
    from_user : (i j : ℕ) → i < j → j < length trace → IsTrue (passes_at trace test j) → IsTrue (is_weak (access_of (event_at trace i).kind)) → strong_for (access_of (event_at trace i).kind) ≡ test → Joined i j
    from_user i j l within at_j weak about =
        let w = first-in test i j (j - suc i) (omega (arith, l)) at_j in
        let there : w.0 < length trace = let up = w.1 in omega (arith, up, within) in
        joined-then i w.0 j (joined-by i w.0 there (inr (omega arith, (weak, subst (λ t. IsFirst trace t i w.0) (sym about) w.2))))
        (from_change w.0 j w.1 within w.2.passes at_j)

  passes_here : (test : Event → Bool) (j : ℕ) → j < length trace → passes_at trace test j ≡ test (event_at trace j)
  passes_here test j within = passes_at-is trace test j (event_at trace j) (slice_get-get_or trace j past within)

  -- ---- the things

  of_thread : (t : ℕ) (k j : ℕ) → j < length trace → IsTrue (passes_at trace (is_about thread_in t) j) → IsLast trace (is_about thread_in t) k j → LinksBack trace k j
  of_thread t k j within at_j last =
      inl (subst (λ u. IsLast trace (is_about thread_in u) k j) (sym (eqb-true (thread_of (event_at trace j)) t (sym (passes_here (is_about thread_in t) j within) ∙ at_j))) last)

  of_thing : (test : Event → Bool) → ((e : Event) → IsTrue (test e) → strong_for (access_of e.kind) ≡ test) → (k j : ℕ) → j < length trace → IsTrue (passes_at trace test j) → IsLast trace test k j → LinksBack trace k j
  of_thing test changes k j within at_j last =
      inr (subst (λ t. IsLast trace t k j) (sym (changes (event_at trace j) (sym (passes_here test j within) ∙ at_j))) last)

written_changes : (x : ℕ) (a : Access) → IsTrue (are_same (cell_written a) (Some x)) → strong_for a ≡ is_about written_in x
written_changes x (Exclusive c) h = ap (λ (n : ℕ). is_about written_in n) (eqb-true c.0 x h)
written_changes x _ h = absurd (false≢true h)

handled_uses : (u : ℕ) (a : Access) → IsTrue (are_same (forked_or_joined_of a) (Some u)) → (strong_for a ≡ is_about thread_in u) × IsTrue (is_weak a)
handled_uses u (Access.Fork n) h = (ap (λ (i : ℕ). is_about thread_in i) (eqb-true n.0 u h), refl)
handled_uses u (Access.Join n) h = (ap (λ (i : ℕ). is_about thread_in i) (eqb-true n.0 u h), refl)
handled_uses u _ h = absurd (false≢true h)

-- two accesses of a cell, the first or the second of which is exclusive
abbrev OnCell : Access → Access → Type 0
OnCell k l = (x : ℕ) × ((IsTrue (are_same (cell_written k) (Some x)) × (strong_for l ≡ is_about written_in x)) ⊎ (IsTrue (is_weak k) × (strong_for k ≡ is_about written_in x) × IsTrue (are_same (cell_written l) (Some x))))

on_cell : (k l : Access) → IsTrue (are_same (cell_of k) (cell_of l)) → IsTrue (is_exclusive k || is_exclusive l) → OnCell k l
on_cell (Exclusive c) (Exclusive d) h i = (c.0, inl (eq-eqb c.0 c.0 refl, ap (λ (n : ℕ). is_about written_in n) (sym (eqb-true c.0 d.0 h))))
on_cell (Exclusive c) (Shared d) h i = (c.0, inl (eq-eqb c.0 c.0 refl, ap (λ (n : ℕ). is_about written_in n) (sym (eqb-true c.0 d.0 h))))
on_cell (Shared c) (Exclusive d) h i = (c.0, inr (refl, refl, eq-eqb d.0 c.0 (sym (eqb-true c.0 d.0 h))))
on_cell (Shared c) (Shared d) h i = absurd (false≢true i)
on_cell (Exclusive c) (Access.Fork u) h i = absurd (false≢true h)
on_cell (Exclusive c) (Access.Join u) h i = absurd (false≢true h)
on_cell (Exclusive c) Nothing h i = absurd (false≢true h)
on_cell (Shared c) (Access.Fork u) h i = absurd (false≢true h)
on_cell (Shared c) (Access.Join u) h i = absurd (false≢true h)
on_cell (Shared c) Nothing h i = absurd (false≢true h)
on_cell _ l h i = absurd (false≢true h)

module _ (trace : List Event) (i j : ℕ) (before : i < j) (within : j < length trace) where
  abbrev e : Event
  e = event_at trace i

  abbrev f : Event
  f = event_at trace j

  at_first : (test : Event → Bool) → IsTrue (test e) → IsTrue (passes_at trace test i)
  at_first test h = passes_here trace test i (omega (arith, before, within)) ∙ h

  at_second : (test : Event → Bool) → IsTrue (test f) → IsTrue (passes_at trace test j)
  at_second test h = passes_here trace test j within ∙ h

  -- positions in conflict are joined by links
  joined-conflict : IsTrue (conflict e f) → Joined trace i j
  joined-conflict h = ⊎_elim
      (λ h4. ⊎_elim
      (λ h2. ⊎_elim
      (λ same.
      chain trace (is_about thread_in (thread_of f)) (of_thread trace (thread_of f)) j i j (omega arith) before within (at_first (is_about thread_in (thread_of f)) same) (at_second (is_about thread_in (thread_of f)) (eq-eqb (thread_of f) (thread_of f) refl)))
      (λ cell.
      let p = and_parts _ _ cell in
      let v = on_cell (access_of e.kind) (access_of f.kind) p.0 p.1 in
      let test = is_about written_in v.0 in
      let things = of_thing trace test (λ g. written_changes v.0 (access_of g.kind)) in
      ⊎_elim (λ w. to_user trace test things i j before within (at_first test w.0) w.1) (λ w. from_user trace test things i j before within (at_second test w.2) w.0 w.1) v.1)
      (or_cases _ _ h2))
      (λ handles.
      let u = handled_uses (thread_of f) (access_of e.kind) handles in
      let test = is_about thread_in (thread_of f) in
      from_user trace test (of_thread trace (thread_of f)) i j before within (at_second test (eq-eqb (thread_of f) (thread_of f) refl)) u.1 u.0)
      (or_cases _ _ h4))
      (λ handled.
      let u = handled_uses (thread_of e) (access_of f.kind) handled in
      let test = is_about thread_in (thread_of e) in
      to_user trace test (of_thread trace (thread_of e)) i j before within (at_first test (eq-eqb (thread_of e) (thread_of e) refl)) u.0)
      (or_cases _ _ h)

pub Edge-joined : (trace : List Event) (b a : ℕ) → Edge trace b a → Reaches (Linked trace) b a
Edge-joined trace b a w =
    let there : w.from < length trace = let l = w.in_order in let m = w.in_trace in omega (arith, l, m) in
    let clash = conflict-of trace w.from w.to (event_at trace w.from) (event_at trace w.to) (slice_get-get_or trace w.from past there) (slice_get-get_or trace w.to past w.in_trace) w.in_conflict in
    let joined = joined-conflict trace w.from w.to w.in_order w.in_trace clash in
    subst (λ x. Reaches (Linked trace) x a) w.of_from (subst (Reaches (Linked trace) (owner trace w.from)) w.of_to joined)

-- what is linked has an edge
pub Linked-edge : (trace : List Event) (b a : ℕ) → Linked trace b a → Edge trace b a
Linked-edge trace b a w = ⊎_elim
    (λ back. ⊎_elim
    (λ last. edge-into trace w.to w.in_trace w.from last.before (conflicts-own trace w.to w.in_trace w.from last.passes) a b (sym w.of_from) (sym w.of_to) (λ same. w.differ (sym w.of_from ∙ (same ∙ w.of_to))))
    (λ last. edge-into trace w.to w.in_trace w.from last.before (conflicts-strong trace w.to w.in_trace w.from last.passes).0 a b (sym w.of_from) (sym w.of_to) (λ same. w.differ (sym w.of_from ∙ (same ∙ w.of_to))))
    back.1)
    (λ on.
    let first = on.1.1 in
    let here : w.from < length trace = let up = first.after in let m = w.in_trace in omega (arith, up, m) in
    edge-out trace w.from here w.to first.after (conflicts-strong trace w.from here w.to first.passes).1 w.in_trace a b (sym w.of_from) (sym w.of_to) (λ same. w.differ (sym w.of_from ∙ (same ∙ w.of_to))))
    w.link

-- ---- what is listed

module _ (trace : List Event) (listed : List Bool) (closed : (b a : ℕ) → Edge trace b a → IsTrue (has listed a) → IsTrue (has listed b)) where
  path-listed : (a : ℕ) → ((b : ℕ) → Linked trace b a → IsTrue (has listed b)) → (b : ℕ) (between : List ℕ) → Path (Linked trace) b between a → IsTrue (has listed b)
  path-listed a all b [] p = all b p
  path-listed a all b (c ∷ cs) p = closed b c (Linked-edge trace b c p.0) (path-listed a all c cs p.1)

  -- where all that is linked to a transaction is listed, it is free
  pub IsFree-linked : (a : ℕ) → ((b : ℕ) → Linked trace b a → IsTrue (has listed b)) → IsFree trace listed a
  IsFree-linked a all = record {
    each = λ n. record {
      each = λ own i before clash other.
          let there = conflict_at-within trace i n clash in
          ⊎_elim (λ same. absurd (other same)) (λ p. path-listed a all (owner trace i) p.0 p.1)
          (Edge-joined trace (owner trace i) a (record { from = i; to = n; in_order = before; in_trace = there.1; in_conflict = clash; of_from = refl; of_to = own; differ = other }));
    };
  }

  -- what has an edge from one that is not listed is not
  pub IsFree-not_linked : (b a : ℕ) → Edge trace b a → IsFalse (has listed b) → ¬ IsFree trace listed a
  IsFree-not_linked b a w new free =
      both_ways _ new (subst (λ x. IsTrue (has listed x)) w.of_from ((free.each w.to).each w.of_to w.from w.in_order w.in_conflict (λ same. w.differ (sym w.of_from ∙ same))))
