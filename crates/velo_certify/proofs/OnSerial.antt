-- The rounds in which a serial order is listed.
use Rattle.std.proofs.Common.{◌≡◌, ◌≢◌, ℕ, zero, suc, ◌+◌, ◌-◌, ◌<◌, ◌≤◌, Bool, true, false, cond, List, [], ◌∷◌, ◌++◌, length, set, replicate, refl, sym, ap, ◌∙◌, subst, arith, ⊎_elim}
use Rattle.std.specs.Prelude.{◌==◌, ◌||◌, filter, slice_index_or, IsTrue, Contains}
use Rattle.std.specs.List.{range_with_len}
use Rattle.std.proofs.lemmas.Bool.{cases_Bool, cases_eq, eq-eqb, ne_eqb, or_right, both_ways, false_from_ne_true}
use Rattle.std.proofs.lemmas.List.{append-nil, length-set, get_or-set_same, get_or-set_other, length-replicate, get_or-replicate, flat_map_more}
use Rattle.std.proofs.lemmas.List.Elements.{filter-append}
use Rattle.std.proofs.lemmas.List.Folds.{list_any-append}
use Rattle.std.proofs.lemmas.Cmp.{nat_eq_equiv}
use Rattle.std.proofs.lemmas.Map.Views.{Contains-from_any, list_any-from_Contains, exact_unsigned_eq}
use Rattle.velo_events.specs.declared.event.Event.{Event}
use Rattle.velo_events.specs.Block.{owner, IsTransaction}
use Rattle.velo_events.specs.Graph.{Edge, HasCycle}
use Rattle.velo_events.specs.Certificate.{positions_of, IsReady, IsSerialOrder}
use Rattle.velo_events.proofs.OnBlocks.{owner-le}
use Rattle.velo_events.proofs.OnReorderings.{conflict_at-within}
use Rattle.velo_events.proofs.OnSerializing.{is_listed, in_turn, IsGreedy, IsGreedy-nil, IsGreedy-push, ready_or_cycle, IsSerialOrder-by}
use Rattle.velo_certify.specs.Serial.{has, AreClosed, IsFree, IsCandidate}

-- ---- the positions of a transaction

pub range_push : (a n : ℕ) → range_with_len a (suc n) ≡ range_with_len a n ++ (a + n) ∷ []
range_push a zero = ap (λ k. k ∷ []) (let same : a ≡ a + 0 = omega arith in same)
range_push a (suc n) = ap (λ xs. a ∷ xs) (range_push (a + 1) n ∙ ap (λ k. range_with_len (a + 1) n ++ k ∷ []) (let same : a + 1 + n ≡ a + suc n = omega arith in same))

-- those below n
unfoldable pub positions_below : List Event → ℕ → ℕ → List ℕ
positions_below trace a n = filter (λ i. owner trace i == a) (range_with_len 0 n)

below-step : (trace : List Event) (a n : ℕ) → positions_below trace a (n + 1) ≡ positions_below trace a n ++ filter (λ i. owner trace i == a) (n ∷ [])
unfolding positions_below
below-step trace a n =
    ap (λ k. filter (λ i. owner trace i == a) (range_with_len 0 k)) (let more : n + 1 ≡ suc n = omega arith in more)
    ∙ (ap (filter (λ i. owner trace i == a)) (range_push 0 n ∙ ap (λ k. range_with_len 0 n ++ k ∷ []) (let same : 0 + n ≡ n = omega arith in same))
    ∙ filter-append (λ i. owner trace i == a) (range_with_len 0 n) (n ∷ []))

pub below-own : (trace : List Event) (a n : ℕ) → owner trace n ≡ a → positions_below trace a (n + 1) ≡ positions_below trace a n ++ n ∷ []
below-own trace a n own = below-step trace a n ∙ ap (λ xs. positions_below trace a n ++ xs) (ap (λ b. cond b (n ∷ []) []) (eq-eqb _ a own))

pub below-other : (trace : List Event) (a n : ℕ) → owner trace n ≢ a → positions_below trace a (n + 1) ≡ positions_below trace a n
below-other trace a n other = below-step trace a n ∙ (ap (λ xs. positions_below trace a n ++ xs) (ap (λ b. cond b (n ∷ []) []) (ne_eqb _ a other)) ∙ append-nil (positions_below trace a n))

-- where no position between is its own
pub below-stays : (trace : List Event) (a n k : ℕ) → ((i : ℕ) → n ≤ i → i < n + k → owner trace i ≢ a) → positions_below trace a (n + k) ≡ positions_below trace a n
below-stays trace a n zero none = ap (positions_below trace a) (omega arith)
below-stays trace a n (suc k) none =
    ap (positions_below trace a) (let more : n + suc k ≡ n + k + 1 = omega arith in more)
    ∙ (below-other trace a (n + k) (none (n + k) (omega arith) (omega arith)) ∙ below-stays trace a n k (λ i l h. none i l (omega (arith, h))))

-- before its first position there is none
pub below-first : (trace : List Event) (a : ℕ) → positions_below trace a a ≡ []
unfolding positions_below
below-first trace a =
    ap (positions_below trace a) (let same : a ≡ 0 + a = omega arith in same)
    ∙ below-stays trace a 0 a (λ i l h own. let most = owner-le trace i in omega (arith, most, own, h))

-- and behind its last
pub below-last : (trace : List Event) (a n : ℕ) → n ≤ length trace → ((i : ℕ) → i < length trace → owner trace i ≡ a → i < n) → positions_below trace a n ≡ positions_of trace a
unfolding positions_below positions_of
below-last trace a n within last =
    sym (below-stays trace a n (length trace - n) (λ i l h own. let before = last i (omega (arith, h, within)) own in omega (arith, before, l)))
    ∙ ap (positions_below trace a) (let all : n + (length trace - n) ≡ length trace = omega (arith, within) in all)

-- ---- what is marked as listed

-- the marks are those of the list
pub record AreMarked (trace : List Event) (list : List ℕ) (listed : List Bool) : Type 0 where
  pub count : length listed ≡ length trace
  pub each : (a : ℕ) → a < length trace → has listed a ≡ is_listed list a

contains-of : (list : List ℕ) (a : ℕ) → IsTrue (is_listed list a) → Contains list a
contains-of list a h = Contains-from_any exact_unsigned_eq a list h

of_contains : (list : List ℕ) (a : ℕ) → Contains list a → IsTrue (is_listed list a)
of_contains list a h = list_any-from_Contains nat_eq_equiv a list h

-- the listed transactions and the marks, and what is known of them
pub record ListsSoFar (trace : List Event) (listed : List Bool) (order : List ℕ) : Type 0 where
  pub list : List ℕ
  pub marked : AreMarked trace list listed
  pub greedy : IsGreedy trace list
  pub items : order ≡ in_turn trace list

pub ListsSoFar-start : (trace : List Event) (listed : List Bool) (order : List ℕ) → listed ≡ replicate (length trace) false → order ≡ [] → ListsSoFar trace listed order
ListsSoFar-start trace listed order is none = record {
  list = [];
  marked = record {
    count = ap length is ∙ length-replicate (length trace) false;
    each = λ a l. ap (λ xs. slice_index_or xs a false) is ∙ get_or-replicate (length trace) a false false l;
  };
  greedy = IsGreedy-nil trace;
  items = none;
}

module _ (trace : List Event) (list : List ℕ) (listed : List Bool) (marked : AreMarked trace list listed) where
  -- a candidate that is free is ready
  ready-by : (a : ℕ) → IsCandidate trace listed a → IsFree trace listed a → IsReady trace list a
  ready-by a c f = record {
    transaction = record { within = c.within; first = c.first };
    not_listed = λ h. both_ways _ c.not_listed (marked.each a c.within ∙ of_contains list a h);
    predecessors = λ b e.
        let inside : e.from < length trace = let l = e.in_trace in let o = e.in_order in omega (arith, l, o) in
        let small : owner trace e.from < length trace = let most = owner-le trace e.from in omega (arith, most, inside) in
        let is = (f.each e.to).each e.of_to e.from e.in_order e.in_conflict (λ same. e.differ (sym e.of_from ∙ same)) in
        subst (Contains list) e.of_from (contains-of list (owner trace e.from) (sym (marked.each (owner trace e.from) small) ∙ is));
  }

  -- and the other way round
  ready-candidate : (a : ℕ) → IsReady trace list a → IsCandidate trace listed a
  ready-candidate a r = record {
    within = r.transaction.within;
    first = r.transaction.first;
    not_listed = false_from_ne_true _ (λ h. r.not_listed (contains-of list a (sym (marked.each a r.transaction.within) ∙ h)));
  }

  ready-free : (a : ℕ) → IsReady trace list a → IsFree trace listed a
  ready-free a r = record {
    each = λ n. record {
      each = λ own i before clash other.
          let inside = conflict_at-within trace i n clash in
          let small : owner trace i < length trace = let most = owner-le trace i in omega (arith, most, inside.0) in
          let edge : Edge trace (owner trace i) a = record { from = i; to = n; in_order = before; in_trace = inside.1; in_conflict = clash; of_from = refl; of_to = own; differ = other } in
          marked.each (owner trace i) small ∙ of_contains list (owner trace i) (r.predecessors (owner trace i) edge);
    };
  }

  transaction-candidate : (a : ℕ) → IsTransaction trace a → ¬ Contains list a → IsCandidate trace listed a
  transaction-candidate a t new = record { within = t.within; first = t.first; not_listed = false_from_ne_true _ (λ h. new (contains-of list a (sym (marked.each a t.within) ∙ h))) }

  candidate-new : (a : ℕ) → IsCandidate trace listed a → ¬ Contains list a
  candidate-new a c h = both_ways _ c.not_listed (marked.each a c.within ∙ of_contains list a h)

  marked-push : (a : ℕ) → a < length trace → AreMarked trace (list ++ a ∷ []) (set listed a true)
  marked-push a within = record {
    count = length-set listed a true ∙ marked.count;
    each = λ b l. ⊎_elim
        (λ e. (ap (has (set listed a true)) e ∙ get_or-set_same listed a true false (let c = marked.count in omega (arith, within, c))) ∙ sym (pushed b ∙ or_right (is_listed list b) _ (eq-eqb b a e)))
        (λ e. (get_or-set_other listed a b true false e ∙ marked.each b l) ∙ sym (pushed b ∙ without (is_listed list b) (b == a) (ne_eqb b a e)))
        (cases_eq b a);
  }
    where
      pushed : (b : ℕ) → is_listed (list ++ a ∷ []) b ≡ (is_listed list b || b == a)
      pushed b = list_any-append (λ c. b == c) list (a ∷ []) ∙ ap (λ t. is_listed list b || t) (elim (b == a) as (λ t. (t || false) ≡ t) [ true ↦ refl | false ↦ refl ])

      without : (p q : Bool) → q ≡ false → (p || q) ≡ p
      without true q h = refl
      without false q h = h

module _ (trace : List Event) (listed : List Bool) (order : List ℕ) (w : ListsSoFar trace listed order) where
  -- the least that is free is listed next
  pub ListsSoFar-next : (a : ℕ) → IsCandidate trace listed a → IsFree trace listed a → ((b : ℕ) → IsCandidate trace listed b → IsFree trace listed b → a ≤ b) → (new : List ℕ) → new ≡ order ++ positions_of trace a → ListsSoFar trace (set listed a true) new
  ListsSoFar-next a c f least new is = record {
    list = w.list ++ a ∷ [];
    marked = marked-push trace w.list listed w.marked a c.within;
    greedy = IsGreedy-push trace w.list w.greedy a (ready-by trace w.list listed w.marked a c f)
        (λ b r. least b (ready-candidate trace w.list listed w.marked b r) (ready-free trace w.list listed w.marked b r));
    items = is ∙ (ap (λ xs. xs ++ positions_of trace a) w.items ∙ flat_map_more (positions_of trace) [] w.list a);
  }

  -- what is listed is closed under edges
  pub AreClosed-lists : AreClosed trace listed
  AreClosed-lists = record {
    each = λ b a edge known.
        let there : edge.from < length trace = let l = edge.in_trace in let o = edge.in_order in omega (arith, l, o) in
        let small : b < length trace = let most = owner-le trace edge.from in let is = edge.of_from in omega (arith, most, there, is) in
        let own : a < length trace = let most = owner-le trace edge.to in let l = edge.in_trace in let is = edge.of_to in omega (arith, most, l, is) in
        w.marked.each b small ∙ of_contains w.list b (w.greedy.closed b a edge (contains-of w.list a (sym (w.marked.each a own) ∙ known)));
  }

  -- where some are left, and none is free, there is a cycle
  pub HasCycle-stuck : (a : ℕ) → IsCandidate trace listed a → ((b : ℕ) → IsCandidate trace listed b → ¬ IsFree trace listed b) → HasCycle trace
  HasCycle-stuck a c none = ⊎_elim (λ h. h)
      (λ r. absurd (none r.0 (ready-candidate trace w.list listed w.marked r.0 r.1) (ready-free trace w.list listed w.marked r.0 r.1)))
      (ready_or_cycle trace w.list a (record { within = c.within; first = c.first }) (candidate-new trace w.list listed w.marked a c))

  -- where none is left this is the serial order
  pub IsSerialOrder-done : ((b : ℕ) → ¬ IsCandidate trace listed b) → IsSerialOrder trace order
  IsSerialOrder-done none = subst (IsSerialOrder trace) (sym w.items)
      (IsSerialOrder-by trace w.list w.greedy (λ a t. ⊎_elim (λ h. contains-of w.list a h)
      (λ h. absurd (none a (transaction-candidate trace w.list listed w.marked a t (λ k. both_ways _ h (of_contains w.list a k))))) (cases_Bool (is_listed w.list a))))

-- what was listed stays so
pub has-set : (listed : List Bool) (a b : ℕ) → a < length listed → IsTrue (has listed b) → IsTrue (has (set listed a true) b)
has-set listed a b within h = ⊎_elim (λ e. ap (has (set listed a true)) e ∙ get_or-set_same listed a true false within) (λ e. get_or-set_other listed a b true false e ∙ h) (cases_eq b a)
