-- The law of the graph: a trace has a cycle exactly where no reordering of it is serial. The serial order of a trace without
-- a cycle is the greedy one.
use Rattle.std.proofs.Common.{◌≡◌, ◌≢◌, ℕ, zero, suc, ◌+◌, ◌-◌, ◌<◌, ◌≤◌, Bool, true, false, cond, not, List, [], ◌∷◌, ◌++◌, length, length-append, take, refl, sym, ap, ◌∙◌, subst, arith, ⊎_elim, inl, inr}
use Rattle.std.specs.Prelude.{◌⊎◌, ◌↔◌, ◌&&◌, ◌||◌, ◌==◌, count_by, filter, flat_map, slice_index, IsTrue, IsFalse, All, AllPairs, Contains}
use Rattle.std.specs.List.{list_any}
use Rattle.std.proofs.lemmas.List.{length_push, get_or_append_left, get_or-append_right, get_or_push, take-append-le, take_at, flat_map_more}
use Rattle.std.proofs.lemmas.List.Elements.{All-append, Contains-append_left, Contains-push, Contains-push_cases, filter_passes}
use Rattle.std.proofs.lemmas.List.Folds.{list_any-append}
use Rattle.std.proofs.lemmas.List.Kept.{AllPairs-filter}
use Rattle.std.proofs.lemmas.List.Sums.{sum_by-append, sum_by-le}
use Rattle.std.proofs.lemmas.List.Filters.{sum_by-filter_both}
use Rattle.std.proofs.lemmas.Cmp.{nat_eq_equiv}
use Rattle.std.proofs.lemmas.Map.Views.{Contains-from_any, list_any-from_Contains, exact_unsigned_eq}
use Rattle.std.proofs.lemmas.Bool.{cases_Bool, cases_lt, cases_order, and_parts, and_from, or_cases, or_from, or_left, or_right, not-true, not_from_true, not_from_false, eqb-true, eq-eqb, ne_eqb, lt-ltb, le-ltb, both_ways, false_from_ne_true, false≢true, cond-true}
use Rattle.velo_events.specs.declared.event.Event.{Event}
use Rattle.velo_events.specs.Block.{any_below, least_below, positions, owner, IsTransaction}
use Rattle.velo_events.specs.Graph.{Leads, Edge, HasCycle}
use Rattle.velo_events.specs.Reordering.{IsReordering, IsSerial, IsSerializable}
use Rattle.velo_events.specs.Certificate.{positions_of, IsReady, IsSerialOrder}
use Rattle.velo_events.proofs.OnBlocks.{any_below-at, any_below-some, least_below-is}
use Rattle.velo_events.proofs.OnGraphs.{Leads-trans, IsCycle-none_by_rank}
use Rattle.velo_events.proofs.OnReorderings.{conflict_at-within, IsReordering-place, IsReordering-pair}
use Rattle.velo_events.proofs.OnPositions.{count_positions, AllPairs-append}
use Rattle.velo_events.proofs.OnUnfinished.{IsTransaction-owner}
use Rattle.velo_events.proofs.OnReaching.{Reaches-from_transaction, HasCycle-from_on}
use Rattle.velo_events.proofs.OnBlame.{KeepsOrder, IsReordering-by, positions-keep}
use Rattle.velo_events.proofs.Deciders.{makes_edge, edge_by}

-- ---- with a serial reordering there is no cycle

module _ (trace : List Event) (order : List ℕ) (reorders : IsReordering trace order) (serial : IsSerial trace order) where
  -- the place at which the positions of a transaction begin
  first_place : ℕ → ℕ
  first_place a = least_below (length order) (λ k. owner trace (slice_index order k) == a)

  -- is no later than any of its places, and is one
  first_place-is : (a k : ℕ) → k < length order → owner trace (slice_index order k) ≡ a → (first_place a ≤ k) × (owner trace (slice_index order (first_place a)) ≡ a)
  unfolding first_place
  first_place-is a k l at =
      let least = least_below-is (length order) (λ j. owner trace (slice_index order j) == a) in
      let most : first_place a ≤ k = ⊎_elim (λ g. absurd (both_ways _ (least.before k g) (eq-eqb _ a at))) (λ g. g) (cases_lt k (first_place a)) in
      (most, eqb-true _ a (least.passes (omega (arith, most, l))))

  -- an edge leads to a transaction that stands later: with a place of b before a's, a's places would stand among b's
  first_place-rises : (a b : ℕ) → Edge trace a b → first_place a < first_place b
  first_place-rises a b e =
      let from = IsReordering-place trace order reorders e.from (omega (arith, e.in_order, e.in_trace)) in
      let to = IsReordering-place trace order reorders e.to e.in_trace in
      let before : from.0 < to.0 = IsReordering-pair trace order reorders e.from e.to from.0 to.0 (e.in_order, e.in_conflict) from.1 to.1 from.2 to.2 in
      let at_from : owner trace (slice_index order from.0) ≡ a = ap (owner trace) from.2 ∙ e.of_from in
      let at_to : owner trace (slice_index order to.0) ≡ b = ap (owner trace) to.2 ∙ e.of_to in
      let of_a = first_place-is a from.0 from.1 at_from in
      let of_b = first_place-is b to.0 to.1 at_to in
      ⊎_elim (λ same. absurd (e.differ (sym of_a.1 ∙ (ap (λ k. owner trace (slice_index order k)) same ∙ of_b.1))))
      (⊎_elim (λ l. l)
      (λ l. let between = serial b (first_place b) from.0 to.0 (omega (arith, l, of_a.0)) before to.1 (eq-eqb _ b of_b.1) (eq-eqb _ b at_to) in
      absurd (e.differ (sym at_from ∙ eqb-true _ b between))))
      (cases_order (first_place a) (first_place b))

  pub IsSerial-no_cycle : ¬ HasCycle trace
  IsSerial-no_cycle c = IsCycle-none_by_rank (Edge trace) first_place first_place-rises c.cycle c.is_cycle

-- ---- how many numbers fail a test

-- below n
missing : ℕ → (ℕ → Bool) → ℕ
missing zero test = 0
missing (suc n) test = missing n test + cond (test n) 0 1

fewer : (a b : Bool) → (IsTrue a → IsTrue b) → cond {A = ℕ} b 0 1 ≤ cond {A = ℕ} a 0 1
fewer true b h = rw (h refl) (omega arith)
fewer false true h = omega arith
fewer false false h = omega arith

-- not more where more pass
missing-le : (n : ℕ) (p q : ℕ → Bool) → ((i : ℕ) → IsTrue (p i) → IsTrue (q i)) → missing n q ≤ missing n p
unfolding missing
missing-le zero p q more = omega arith
missing-le (suc n) p q more = omega (arith, missing-le n p q more, fewer (p n) (q n) (more n))

-- and less where one of them did not
missing-lt : (n : ℕ) (p q : ℕ → Bool) (a : ℕ) → ((i : ℕ) → IsTrue (p i) → IsTrue (q i)) → a < n → IsFalse (p a) → IsTrue (q a) → missing n q < missing n p
unfolding missing
missing-lt zero p q a more l fails passes = absurd (omega arith)
missing-lt (suc n) p q a more l fails passes =
    ⊎_elim (λ g. omega (arith, missing-lt n p q a more g fails passes, fewer (p n) (q n) (more n))) (λ g. here (omega (arith, g, l))) (cases_lt a n)
  where
    here : a ≡ n → missing (suc n) q < missing (suc n) p
    here at =
        let before : cond {A = ℕ} (p n) 0 1 ≡ 1 = ap (λ b. cond {A = ℕ} b 0 1) (ap p (sym at) ∙ fails) in
        let after : cond {A = ℕ} (q n) 0 1 ≡ 0 = ap (λ b. cond {A = ℕ} b 0 1) (ap q (sym at) ∙ passes) in
        omega (arith, missing-le n p q more, before, after)

-- ---- the transactions that are ready

-- a is in the list
abbrev pub is_listed : List ℕ → ℕ → Bool
is_listed listed a = list_any (λ b. a == b) listed

is_listed-contains : (listed : List ℕ) (a : ℕ) → IsTrue (is_listed listed a) → Contains listed a
is_listed-contains listed a h = Contains-from_any exact_unsigned_eq a listed h

contains-is_listed : (listed : List ℕ) (a : ℕ) → Contains listed a → IsTrue (is_listed listed a)
contains-is_listed listed a h = list_any-from_Contains nat_eq_equiv a listed h

makes_edge-of : (trace : List Event) (a b : ℕ) (e : Edge trace a b) → IsTrue (makes_edge trace e.from e.to)
unfolding makes_edge
makes_edge-of trace a b e =
    and_from _ _ (and_from _ _ (lt-ltb e.from e.to e.in_order) (lt-ltb e.to (length trace) e.in_trace))
    (and_from _ _ e.in_conflict (not_from_false _ (ne_eqb (owner trace e.from) (owner trace e.to) (λ same. e.differ (sym e.of_from ∙ (same ∙ e.of_to))))))

module _ (trace : List Event) (listed : List ℕ) where
  -- positions i and j make an edge to a, from a transaction that is not listed
  holds_back : ℕ → ℕ → ℕ → Bool
  holds_back a j i = makes_edge trace i j && (owner trace j == a && not (is_listed listed (owner trace i)))

  -- some two do
  waits : ℕ → Bool
  waits a = any_below (length trace) (λ j. any_below j (holds_back a j))

  waits-for : (a : ℕ) → IsTrue (waits a) → (b : ℕ) × Edge trace b a × IsFalse (is_listed listed b)
  unfolding waits holds_back
  waits-for a h =
      let w = any_below-some (length trace) (λ j. any_below j (holds_back a j)) h in
      let v = any_below-some w.0 (holds_back a w.0) w.2 in
      let p = and_parts _ _ v.2 in
      let q = and_parts _ _ p.1 in
      (owner trace v.0, subst (λ c. Edge trace (owner trace v.0) c) (eqb-true _ _ q.0) (edge_by trace v.0 w.0 p.0), not-true _ q.1)

  waits-not : (a : ℕ) → IsFalse (waits a) → (b : ℕ) → Edge trace b a → Contains listed b
  unfolding waits holds_back
  waits-not a h b e =
      ⊎_elim (λ c. is_listed-contains listed b c)
      (λ n. let found = and_from _ _ (makes_edge-of trace b a e) (and_from _ _ (eq-eqb _ a e.of_to) (not_from_false _ (ap (is_listed listed) e.of_from ∙ n))) in
      absurd (both_ways (waits a) h (any_below-at (length trace) _ e.to e.in_trace (any_below-at e.to (holds_back a e.to) e.from e.in_order found))))
      (cases_Bool (is_listed listed b))

  not_listed : (a : ℕ) → ¬ Contains listed a → IsFalse (is_listed listed a)
  not_listed a new = false_from_ne_true _ (λ h. new (is_listed-contains listed a h))

  IsReady-by : (a : ℕ) → IsTransaction trace a → IsFalse (is_listed listed a) → IsFalse (waits a) → IsReady trace listed a
  IsReady-by a t new free = record { transaction = t; not_listed = λ c. both_ways _ new (contains-is_listed listed a c); predecessors = waits-not a free }

  is_unlisted : ℕ → Bool
  is_unlisted a = owner trace a == a && not (is_listed listed a)

  is_unlisted-parts : (a : ℕ) → IsTrue (is_unlisted a) → (owner trace a ≡ a) × IsFalse (is_listed listed a)
  unfolding is_unlisted
  is_unlisted-parts a h = let p = and_parts _ _ h in (eqb-true _ a p.0, not-true _ p.1)

  is_unlisted-by : (a : ℕ) → owner trace a ≡ a → IsFalse (is_listed listed a) → IsTrue (is_unlisted a)
  unfolding is_unlisted
  is_unlisted-by a first new = and_from _ _ (eq-eqb _ a first) (not_from_false _ new)

  is_ready : ℕ → Bool
  is_ready a = is_unlisted a && not (waits a)

  is_ready-of : (a : ℕ) → IsReady trace listed a → IsTrue (is_ready a)
  unfolding is_ready
  is_ready-of a r =
      and_from _ _
      (is_unlisted-by a r.transaction.first (not_listed a r.not_listed))
      (not_from_false _ (false_from_ne_true _ (λ h. let w = waits-for a h in both_ways _ w.2 (contains-is_listed listed w.0 (r.predecessors w.0 w.1)))))

  IsReady-from : (a : ℕ) → a < length trace → IsTrue (is_ready a) → IsReady trace listed a
  unfolding is_ready
  IsReady-from a l h =
      let p = and_parts _ _ h in
      let q = is_unlisted-parts a p.0 in
      IsReady-by a (record { within = l; first = q.0 }) q.1 (not-true _ p.1)

  -- where one is ready there is a least one
  pub least_ready : (a : ℕ) → IsReady trace listed a → (b : ℕ) × IsReady trace listed b × ((c : ℕ) → IsReady trace listed c → b ≤ c)
  least_ready a r =
      let least = least_below-is (length trace) is_ready in
      let b = least_below (length trace) is_ready in
      let most : ((c : ℕ) → IsReady trace listed c → b ≤ c) = λ c s. ⊎_elim (λ l. absurd (both_ways _ (least.before c l) (is_ready-of c s))) (λ g. g) (cases_lt c b) in
      let within : b < length trace = omega (arith, most a r, r.transaction.within) in
      (b, IsReady-from b within (least.passes within), most)

  -- backwards along edges from what is not listed we come to what is ready, or to what was seen. All that was seen is reached
  -- from where we stand
  walk_back : (steps : ℕ) (seen : ℕ → Bool) (a : ℕ) → IsTransaction trace a → IsFalse (is_listed listed a) → ((b : ℕ) → IsTrue (seen b) → Leads (Edge trace) a b) → IsFalse (seen a) → missing (length trace) seen < steps → HasCycle trace ⊎ ((b : ℕ) × IsReady trace listed b)
  walk_back zero seen a t unlisted leads new l = absurd (omega (arith, l))
  walk_back (suc steps) seen a t unlisted leads new l =
      ⊎_elim
      (λ h.
      let w = waits-for a h in
      let next : ℕ → Bool = λ b. seen b || b == a in
      ⊎_elim
      (λ again. inl (HasCycle-from_on trace a (record { other = w.0; differ = λ same. w.1.differ (sym same); there = inr (leads w.0 again); back = inr ([], w.1) })))
      (λ first. walk_back steps next w.0 (Reaches-from_transaction trace w.0 a t (inr ([], w.1))) w.2
      (λ b s. ⊎_elim (λ before. Leads-trans (Edge trace) w.0 a b ([], w.1) (leads b before)) (λ at. ([], subst (λ c. Edge trace w.0 c) (sym (eqb-true b a at)) w.1)) (or_cases _ _ s))
      (or_from _ _ first (ne_eqb w.0 a w.1.differ))
      (omega (arith, l, missing-lt (length trace) seen next a (λ i s. or_left _ _ s) t.within new (or_right _ _ (eq-eqb a a refl)))))
      (cases_Bool (seen w.0)))
      (λ free. inr (a, IsReady-by a t unlisted free))
      (cases_Bool (waits a))

  -- while a transaction is not listed one is ready, or there is a cycle
  pub ready_or_cycle : (a : ℕ) → IsTransaction trace a → ¬ Contains listed a → HasCycle trace ⊎ ((b : ℕ) × IsReady trace listed b)
  ready_or_cycle a t new =
      walk_back (missing (length trace) (λ _. false) + 1) (λ _. false) a t (not_listed a new) (λ b seen. absurd (false≢true seen)) refl (omega arith)

-- ---- the positions of a transaction

module _ (trace : List Event) (a : ℕ) where
  positions_of-own : All (λ i. owner trace i ≡ a) (positions_of trace a)
  unfolding positions_of
  positions_of-own k d l = eqb-true _ a (filter_passes (λ i. owner trace i == a) (positions trace) k d l)

  positions_of-keep : AllPairs (KeepsOrder trace) (positions_of trace a)
  unfolding positions_of
  positions_of-keep = AllPairs-filter (KeepsOrder trace) (λ i. owner trace i == a) (positions trace) (positions-keep trace)

count_none : (p : ℕ → Bool) (i : ℕ) (xs : List ℕ) → IsFalse (p i) → count_by (λ k. k == i) (filter p xs) ≡ 0
count_none p i xs fails = omega (arith, sum_by-le (λ k. cond {A = ℕ} (k == i) 1 0) 0 (filter p xs) (λ k d l. each _ (filter_passes p xs k d l)))
  where
    each : (x : ℕ) → IsTrue (p x) → cond {A = ℕ} (x == i) 1 0 ≤ 0
    each x h = rw (ne_eqb x i (λ at. both_ways (p i) fails (ap p (sym at) ∙ h))) (omega arith)

-- a filter keeps all of an element, or nothing
pub count_filter : (p : ℕ → Bool) (i : ℕ) (xs : List ℕ) → count_by (λ k. k == i) (filter p xs) ≡ cond (p i) (count_by (λ k. k == i) xs) 0
count_filter p i xs =
    let both = sum_by-filter_both p (λ x. not (p x)) (λ x. refl) (λ k. cond {A = ℕ} (k == i) 1 0) xs in
    ⊎_elim (λ e. rw e (let none = count_none (λ x. not (p x)) i xs (not_from_true _ e) in omega (arith, both, none)))
    (λ e. rw e (count_none p i xs e)) (cases_Bool (p i))

positions_of-count : (trace : List Event) (a i : ℕ) → count_by (λ k. k == i) (positions_of trace a) ≡ cond (owner trace i == a) (count_by (λ k. k == i) (positions trace)) 0
unfolding positions_of
positions_of-count trace a i = count_filter (λ k. owner trace k == a) i (positions trace)

-- ---- lists of transactions, one after another

-- the positions of the listed transactions
abbrev pub in_turn : List Event → List ℕ → List ℕ
in_turn trace listed = flat_map (positions_of trace) listed

in_turn-push : (trace : List Event) (listed : List ℕ) (a : ℕ) → in_turn trace listed ++ positions_of trace a ≡ in_turn trace (listed ++ a ∷ [])
in_turn-push trace listed a = flat_map_more (positions_of trace) [] listed a

-- a transaction after others stays together
IsSerial-append : (trace : List Event) (xs ys : List ℕ) (a : ℕ) → All (λ i. owner trace i ≢ a) xs → All (λ i. owner trace i ≡ a) ys → IsSerial trace xs → IsSerial trace (xs ++ ys)
IsSerial-append trace xs ys a other own serial b k l m before after within first last = ⊎_elim inside beyond (cases_lt m (length xs))
  where
    test : ℕ → Bool
    test i = owner trace i == b

    inside : m < length xs → IsTrue (test (slice_index (xs ++ ys) l))
    inside g =
        ap test (get_or_append_left xs ys 0 l (omega (arith, g, after)))
        ∙ serial b k l m before after g
        (sym (ap test (get_or_append_left xs ys 0 k (omega (arith, g, before, after)))) ∙ first)
        (sym (ap test (get_or_append_left xs ys 0 m g)) ∙ last)

    at : (j : ℕ) → length xs ≤ j → j < length (xs ++ ys) → owner trace (slice_index (xs ++ ys) j) ≡ a
    at j g h = ap (owner trace) (get_or-append_right xs ys (length xs) j 0 refl g) ∙ own (j - length xs) 0 (omega (arith, g, h, length-append xs ys))

    beyond : length xs ≤ m → IsTrue (test (slice_index (xs ++ ys) l))
    beyond g =
        let same : a ≡ b = sym (at m g within) ∙ eqb-true _ b last in
        let start : length xs ≤ k = ⊎_elim (λ s. absurd (other k 0 s (sym (ap (owner trace) (get_or_append_left xs ys 0 k s)) ∙ (eqb-true _ b first ∙ sym same)))) (λ s. s) (cases_lt k (length xs)) in
        eq-eqb _ b (at l (omega (arith, start, before)) (omega (arith, after, within)) ∙ same)

-- each listed transaction was the least that was ready; and what follows for their positions
pub record IsGreedy (trace : List Event) (listed : List ℕ) : Type 0 where
  pub ready : (k : ℕ) → k < length listed → IsReady trace (take k listed) (slice_index listed k)
  pub least : (k a : ℕ) → k < length listed → IsReady trace (take k listed) a → slice_index listed k ≤ a
  pub closed : (a b : ℕ) → Edge trace a b → Contains listed b → Contains listed a
  pub of_listed : All (λ i. Contains listed (owner trace i)) (in_turn trace listed)
  pub once : (i : ℕ) → count_by (λ k. k == i) (in_turn trace listed) ≡ cond (is_listed listed (owner trace i)) (count_by (λ k. k == i) (positions trace)) 0
  pub kept : AllPairs (KeepsOrder trace) (in_turn trace listed)
  pub serial : IsSerial trace (in_turn trace listed)

pub IsGreedy-nil : (trace : List Event) → IsGreedy trace []
IsGreedy-nil trace = record {
  ready = λ k l. absurd (omega arith);
  least = λ k a l r. absurd (omega arith);
  closed = λ a b e c. absurd (omega (arith, c.1));
  of_listed = λ k d l. absurd (omega arith);
  once = λ i. refl;
  kept = λ i j d l within. absurd (omega arith);
  serial = λ a k l m before after within. absurd (omega arith);
}

one_of : (a b : Bool) (n : ℕ) → (IsTrue a → IsTrue b → ⊥) → cond (a || b) n 0 ≡ cond a n 0 + cond b n 0
one_of true true n h = absurd (h refl refl)
one_of true false n h = omega arith
one_of false b n h = omega arith

module _ (trace : List Event) (listed : List ℕ) (h : IsGreedy trace listed) (a : ℕ) (r : IsReady trace listed a) where
  is_listed-push : (b : ℕ) → is_listed (listed ++ a ∷ []) b ≡ (is_listed listed b || b == a)
  is_listed-push b = list_any-append (λ c. b == c) listed (a ∷ []) ∙ ap (λ t. is_listed listed b || t) (elim (b == a) as (λ t. (t || false) ≡ t) [ true ↦ refl | false ↦ refl ])

  -- an edge from the next transaction leads to none that is listed
  no_edge_back : (i : ℕ) → Contains listed (owner trace i) → (j : ℕ) → owner trace j ≡ a → KeepsOrder trace i j
  no_edge_back i c j own moved = false_from_ne_true _ (λ conflicts. r.not_listed (h.closed a (owner trace i) (record {
    from = j;
    to = i;
    in_order = moved;
    in_trace = (conflict_at-within trace j i conflicts).1;
    in_conflict = conflicts;
    of_from = own;
    of_to = refl;
    differ = λ same. r.not_listed (subst (Contains listed) (sym same) c);
  }) c))

  once-push : (i : ℕ) → count_by (λ k. k == i) (in_turn trace listed ++ positions_of trace a) ≡ cond (is_listed (listed ++ a ∷ []) (owner trace i)) (count_by (λ k. k == i) (positions trace)) 0
  once-push i =
      let all = count_by (λ k. k == i) (positions trace) in
      let split = one_of (is_listed listed (owner trace i)) (owner trace i == a) all (λ old new. r.not_listed (subst (Contains listed) (eqb-true _ a new) (is_listed-contains listed (owner trace i) old))) in
      let same : cond {A = ℕ} (is_listed (listed ++ a ∷ []) (owner trace i)) all 0 ≡ cond {A = ℕ} (is_listed listed (owner trace i) || owner trace i == a) all 0 = ap (λ t. cond {A = ℕ} t all 0) (is_listed-push (owner trace i)) in
      omega (arith, sum_by-append (λ k. cond {A = ℕ} (k == i) 1 0) (in_turn trace listed) (positions_of trace a), h.once i, positions_of-count trace a i, split, same)

  -- the least that is ready is listed next
  pub IsGreedy-push : ((b : ℕ) → IsReady trace listed b → a ≤ b) → IsGreedy trace (listed ++ a ∷ [])
  IsGreedy-push least = record {
    ready = λ k l. ⊎_elim
        (λ g. rw (before k g, old k g) (h.ready k g))
        (λ g. let last = at_end k l g in rw (take_at listed (a ∷ []) k last, get_or_push listed a 0 k last) r)
        (cases_lt k (length listed));
    least = λ k b l s. ⊎_elim
        (λ g. rw (old k g) (h.least k b g (rw (before k g) at s)))
        (λ g. let last = at_end k l g in rw (get_or_push listed a 0 k last) (least b (rw (take_at listed (a ∷ []) k last) at s)))
        (cases_lt k (length listed));
    closed = λ b c e at. Contains-append_left listed (a ∷ []) b (⊎_elim (λ was. h.closed b c e was) (λ new. r.predecessors b (subst (Edge trace b) (sym new) e)) (Contains-push_cases listed a c at));
    of_listed = subst (All (λ i. Contains (listed ++ a ∷ []) (owner trace i))) (in_turn-push trace listed a)
        (All-append (λ i. Contains (listed ++ a ∷ []) (owner trace i)) (in_turn trace listed) (positions_of trace a)
        (λ k d l. Contains-append_left listed (a ∷ []) _ (h.of_listed k d l))
        (λ k d l. subst (Contains (listed ++ a ∷ [])) (sym (positions_of-own trace a k d l)) (Contains-push listed a)));
    once = λ i. subst (λ order. count_by (λ k. k == i) order ≡ cond (is_listed (listed ++ a ∷ []) (owner trace i)) (count_by (λ k. k == i) (positions trace)) 0) (in_turn-push trace listed a) (once-push i);
    kept = subst (AllPairs (KeepsOrder trace)) (in_turn-push trace listed a)
        (AllPairs-append (KeepsOrder trace) (in_turn trace listed) (positions_of trace a) h.kept (positions_of-keep trace a)
        (λ k d l j c m. no_edge_back _ (h.of_listed k d l) _ (positions_of-own trace a j c m)));
    serial = subst (IsSerial trace) (in_turn-push trace listed a)
        (IsSerial-append trace (in_turn trace listed) (positions_of trace a) a (λ k d l same. r.not_listed (subst (Contains listed) same (h.of_listed k d l))) (positions_of-own trace a) h.serial);
  }
    where
      before : (k : ℕ) → k < length listed → take k (listed ++ a ∷ []) ≡ take k listed
      before k g = take-append-le k listed (a ∷ []) (omega arith)

      old : (k : ℕ) → k < length listed → slice_index (listed ++ a ∷ []) k ≡ slice_index listed k
      old k g = get_or_append_left listed (a ∷ []) 0 k g

      at_end : (k : ℕ) → k < length (listed ++ a ∷ []) → length listed ≤ k → length listed ≡ k
      at_end k l g = omega (arith, l, g, length_push listed a)

-- ---- the law

-- with every transaction listed the positions in turn are a serial order
pub IsSerialOrder-by : (trace : List Event) (listed : List ℕ) → IsGreedy trace listed → ((a : ℕ) → IsTransaction trace a → Contains listed a) → IsSerialOrder trace (in_turn trace listed)
IsSerialOrder-by trace listed h all = record {
  reorders = IsReordering-by trace (in_turn trace listed) (λ i. h.once i ∙ (each i ∙ count_positions trace i)) h.kept;
  serial = h.serial;
  listed = listed;
  in_order = refl;
  ready = h.ready;
  least = h.least;
}
  where
    each : (i : ℕ) → cond (is_listed listed (owner trace i)) (count_by (λ k. k == i) (positions trace)) 0 ≡ count_by (λ k. k == i) (positions trace)
    each i = ⊎_elim (λ l. cond-true _ _ _ (contains-is_listed listed _ (all (owner trace i) (IsTransaction-owner trace i l))))
        (λ g. let none : count_by (λ k. k == i) (positions trace) ≡ 0 = count_positions trace i ∙ rw (le-ltb i (length trace) g) refl in
        ⊎_elim (λ e. rw e refl) (λ e. rw e (sym none)) (cases_Bool (is_listed listed (owner trace i))))
        (cases_lt i (length trace))

-- a transaction is not listed, or each is
cases_unlisted : (trace : List Event) (listed : List ℕ) → ((a : ℕ) × IsTransaction trace a × (¬ Contains listed a)) ⊎ ((a : ℕ) → IsTransaction trace a → Contains listed a)
cases_unlisted trace listed = ⊎_elim
    (λ some.
    let w = any_below-some (length trace) (is_unlisted trace listed) some in
    let p = is_unlisted-parts trace listed w.0 w.2 in
    inl (w.0, record { within = w.1; first = p.0 }, λ c. both_ways _ p.1 (contains-is_listed listed w.0 c)))
    (λ none. inr (λ a t. ⊎_elim (λ e. is_listed-contains listed a e)
    (λ e. absurd (both_ways _ none (any_below-at (length trace) (is_unlisted trace listed) a t.within (is_unlisted-by trace listed a t.first e))))
    (cases_Bool (is_listed listed a))))
    (cases_Bool (any_below (length trace) (is_unlisted trace listed)))

-- one more is listed
missing-push : (trace : List Event) (listed : List ℕ) (a : ℕ) → IsReady trace listed a → missing (length trace) (is_listed (listed ++ a ∷ [])) < missing (length trace) (is_listed listed)
missing-push trace listed a r =
    missing-lt (length trace) (is_listed listed) (is_listed (listed ++ a ∷ [])) a
    (λ b h. contains-is_listed _ b (Contains-append_left listed (a ∷ []) b (is_listed-contains listed b h)))
    r.transaction.within (not_listed trace listed a r.not_listed) (contains-is_listed _ a (Contains-push listed a))

-- the greedy order comes to its end, or stops at a cycle
greedy : (trace : List Event) (steps : ℕ) (listed : List ℕ) → IsGreedy trace listed → missing (length trace) (is_listed listed) < steps → HasCycle trace ⊎ ((order : List ℕ) × IsSerialOrder trace order)
greedy trace zero listed h l = absurd (omega (arith, l))
greedy trace (suc steps) listed h l = ⊎_elim
    (λ w. ⊎_elim (λ c. inl c)
    (λ r.
    let b = least_ready trace listed r.0 r.1 in
    greedy trace steps (listed ++ b.0 ∷ []) (IsGreedy-push trace listed h b.0 b.1 b.2) (omega (arith, l, missing-push trace listed b.0 b.1)))
    (ready_or_cycle trace listed w.0 w.1 w.2))
    (λ all. inr (in_turn trace listed, IsSerialOrder-by trace listed h all))
    (cases_unlisted trace listed)

-- A trace has a cycle or the greedy serial order
pub cases_serial_order : (trace : List Event) → HasCycle trace ⊎ ((order : List ℕ) × IsSerialOrder trace order)
cases_serial_order trace = greedy trace (missing (length trace) (is_listed []) + 1) [] (IsGreedy-nil trace) (omega arith)

-- so a trace without a cycle has this order
pub IsSerialOrder-exists : (trace : List Event) → ¬ HasCycle trace → (order : List ℕ) × IsSerialOrder trace order
IsSerialOrder-exists trace none = ⊎_elim (λ c. absurd (none c)) (λ w. w) (cases_serial_order trace)

-- The law: a trace has a cycle exactly where no reordering of it is serial
pub serializable_law : (trace : List Event) → HasCycle trace ↔ (¬ IsSerializable trace)
serializable_law trace = (
  (λ c s. IsSerial-no_cycle trace s.order s.reorders s.serial c),
  (λ not_serial. ⊎_elim (λ c. c) (λ w. absurd (not_serial (record { order = w.0; reorders = w.1.reorders; serial = w.1.serial }))) (cases_serial_order trace)),
)

-- and none exactly where some reordering is
pub serializable_law-none : (trace : List Event) → (¬ HasCycle trace) ↔ IsSerializable trace
serializable_law-none trace = (
  (λ none. let w = IsSerialOrder-exists trace none in record { order = w.0; reorders = w.1.reorders; serial = w.1.serial }),
  (λ s. IsSerial-no_cycle trace s.order s.reorders s.serial),
)
