-- Shortest cycles: the walk that makes one, and the links of a list.
use Rattle.std.proofs.Common.{◌≡◌, ◌≢◌, ℕ, zero, suc, ◌+◌, ◌-◌, ◌<◌, ◌≤◌, Bool, cond, List, [], ◌∷◌, ◌++◌, length, take, drop, refl, sym, ap, ◌∙◌, subst, arith, ⊎_elim}
use Rattle.std.specs.Prelude.{◌↔◌, slice_index, IsTrue}
use Rattle.std.proofs.lemmas.Bool.{cases_lt, lt-ltb, le-ltb}
use Rattle.std.proofs.lemmas.List.{length_push, get_or_append_left, get_or_push, length-take-le, take-append-drop}
use Rattle.velo_events.specs.declared.event.Event.{Event}
use Rattle.velo_events.specs.Block.{owner}
use Rattle.velo_events.specs.Graph.{Path, IsCycle, Edge}
use Rattle.velo_certify.specs.Shortest.{IsCycleAt, IsShortestCycleAt}
use Rattle.velo_events.proofs.OnBlocks.{owner-append}
use Rattle.velo_events.proofs.OnGraphs.{Path-append}
use Rattle.velo_events.proofs.OnReaching.{IsCycle-next}
use Rattle.velo_certify.specs.declared.fault.CertFault.{CertFault}
use Rattle.velo_certify.specs.declared.fault.CertFault.TheVariants.{HasCycle, NoCycle, NotThere, Memory}
use Rattle.velo_certify.specs.Distances.{AreShortest, AreTowards}
use Rattle.velo_certify.specs.Nearest.{IsNearest}
use Rattle.velo_certify.specs.Cycle.{IsCycleFault, IsLastFault, IsOnNone, IsCycleFrom, IsShortestFrom, IsLinked, next_in}

-- the walk has come from the start, by the list, to the present transaction, and with the way back it is as long as it can be
pub record WalksBack (trace : List Event) (distance : List ℕ) (start second : ℕ) (cycle : List ℕ) (present : ℕ) : Type 0 where
  pub between : List ℕ
  pub items : cycle ≡ start ∷ between
  pub path : Path (Edge trace) start between present
  pub steps : length between + slice_index distance present ≡ slice_index distance second
  pub reached : 0 < slice_index distance present

-- ---- the walk
module _ (trace : List Event) (distance : List ℕ) (start second : ℕ) (w : AreShortest trace start distance) where
  pub WalksBack-start : IsNearest trace distance start second → WalksBack trace distance start second (start ∷ []) second
  WalksBack-start n = record { between = []; items = refl; path = n.edge; steps = omega arith; reached = n.reached }

  pub WalksBack-next : (next : List ℕ) → AreTowards trace start distance next → (cycle : List ℕ) (present : ℕ) → present ≢ start → WalksBack trace distance start second cycle present → WalksBack trace distance start second (cycle ++ present ∷ []) (slice_index next present)
  WalksBack-next next t cycle present other v = record {
    between = v.between ++ present ∷ [];
    items = ap (λ xs. xs ++ present ∷ []) v.items;
    path = Path-append (Edge trace) start v.between present [] (slice_index next present) v.path (t.edges present v.reached other);
    steps = let one = (t.nearer.each present v.reached other).1 in let long = length_push v.between present in let was = v.steps in omega (arith, one, long, was);
    reached = (t.nearer.each present v.reached other).0;
  }

  -- no cycle through the start is shorter
  second-least : IsNearest trace distance start second → (other : List ℕ) → IsCycleFrom trace start other → slice_index distance second ≤ length other
  second-least n [] c = absurd c.cyclic
  second-least n (a ∷ []) c = absurd c.cyclic
  second-least n (a ∷ b ∷ rest) c =
      let edge : Edge trace start b = subst (λ x. Edge trace x b) c.begins c.cyclic.0 in
      let path : Path (Edge trace) b rest start = subst (λ x. Path (Edge trace) b rest x) c.begins c.cyclic.1 in
      let (c, out, some, upto) = w.least b rest edge path in
      let most = n.nearest c out some in
      omega (arith, most, upto)

  pub IsShortestFrom-end : (cycle : List ℕ) (present : ℕ) → present ≡ start → IsNearest trace distance start second → WalksBack trace distance start second cycle present → IsShortestFrom trace start cycle
  IsShortestFrom-end cycle present back n v = record {
    is_cycle = record {
      cyclic = subst (IsCycle (Edge trace)) (sym v.items) (closed v.between (subst (Path (Edge trace) start v.between) back v.path));
      begins = ap (λ xs. slice_index xs 0) v.items;
    };
    shortest = λ other c.
        let least = second-least n other c in
        let all = v.steps in
        let one : slice_index distance present ≡ 1 = ap (slice_index distance) back ∙ w.begins in
        let long : length cycle ≡ length v.between + 1 = ap length v.items ∙ omega arith in
        omega (arith, least, all, one, long);
  }
    where
      closed : (between : List ℕ) → Path (Edge trace) start between start → IsCycle (Edge trace) (start ∷ between)
      closed [] p = p.differ refl
      closed (b ∷ rest) p = p

  -- where no next one has a distance there is no cycle
  pub IsOnNone-by : ((b : ℕ) → Edge trace start b → slice_index distance b ≡ 0) → IsOnNone trace start
  IsOnNone-by none = record {
    none = λ cycle c has.
        let b = IsCycle-next (Edge trace) cycle start c has in
        ⊎_elim (λ same. b.1.differ (sym same)) (λ p. let (c, out, some, upto) = w.least b.0 p.0 b.1 p.1 in let zero = none c out in omega (arith, some, zero)) b.2;
  }

-- ---- the events up to a position

module _ (trace : List Event) (p : ℕ) (within : p < length trace) where
  last-owner : owner (take (p + 1) trace) (length (take (p + 1) trace) - 1) ≡ owner trace p
  last-owner =
      let long : length (take (p + 1) trace) ≡ p + 1 = length-take-le (p + 1) trace (omega (arith, within)) in
      ap (owner (take (p + 1) trace)) (let same : length (take (p + 1) trace) - 1 ≡ p = omega (arith, long) in same)
      ∙ (sym (owner-append (take (p + 1) trace) (drop (p + 1) trace) p (omega (arith, long))) ∙ ap (λ xs. owner xs p) (take-append-drop (p + 1) trace))

  IsCycleAt-from : (cycle : List ℕ) → IsCycleFrom (take (p + 1) trace) (owner trace p) cycle → IsCycleAt trace p cycle
  IsCycleAt-from cycle c = record { in_trace = within; cyclic = c.cyclic; begins = c.begins }

  IsCycleFrom-at : (cycle : List ℕ) → IsCycleAt trace p cycle → IsCycleFrom (take (p + 1) trace) (owner trace p) cycle
  IsCycleFrom-at cycle c = record { cyclic = c.cyclic; begins = c.begins }

  pub IsShortestCycleAt-from : (cycle : List ℕ) → IsShortestFrom (take (p + 1) trace) (owner (take (p + 1) trace) (length (take (p + 1) trace) - 1)) cycle → IsShortestCycleAt trace p cycle
  IsShortestCycleAt-from cycle v =
      let s = subst (λ a. IsShortestFrom (take (p + 1) trace) a cycle) last-owner v in
      record { is_cycle = IsCycleAt-from cycle s.is_cycle; shortest = λ other c. s.shortest other (IsCycleFrom-at other c) }

  pub IsCycleFault-from : (fault : CertFault) → IsLastFault (take (p + 1) trace) (owner (take (p + 1) trace) (length (take (p + 1) trace) - 1)) fault → IsCycleFault trace p fault
  IsCycleFault-from HasCycle v = v
  IsCycleFault-from NoCycle v = record { in_trace = within; none = (subst (IsOnNone (take (p + 1) trace)) last-owner v).none }
  IsCycleFault-from NotThere v = absurd v
  IsCycleFault-from Memory v = v

  -- a cycle as long as a shortest one is one
  pub shortest-answer : (found cycle : List ℕ) → IsShortestCycleAt trace p found → length cycle ≡ length found → (said : Bool) → IsTrue said ↔ IsCycleFrom (take (p + 1) trace) (owner (take (p + 1) trace) (length (take (p + 1) trace) - 1)) cycle → IsTrue said ↔ IsShortestCycleAt trace p cycle
  shortest-answer found cycle v same said says = (
    (λ h. record {
      is_cycle = IsCycleAt-from cycle (subst (λ a. IsCycleFrom (take (p + 1) trace) a cycle) last-owner (says.0 h));
      shortest = λ other c. let most = v.shortest other c in omega (arith, most, same);
    }),
    (λ s. says.1 (subst (λ a. IsCycleFrom (take (p + 1) trace) a cycle) (sym last-owner) (IsCycleFrom-at cycle s.is_cycle))),
  )

-- ---- links

Path-by : (R : ℕ → ℕ → Type 0) (x : ℕ) (xs : List ℕ) (y : ℕ) → ((i : ℕ) → i ≤ length xs → R (slice_index (x ∷ xs) i) (slice_index (xs ++ y ∷ []) i)) → Path R x xs y
Path-by R x [] y h = h 0 (omega arith)
Path-by R x (c ∷ cs) y h = (h 0 (omega arith), Path-by R c cs y (λ i l. h (suc i) (omega (arith, l))))

Path-links : (R : ℕ → ℕ → Type 0) (x : ℕ) (xs : List ℕ) (y : ℕ) → Path R x xs y → (i : ℕ) → i ≤ length xs → R (slice_index (x ∷ xs) i) (slice_index (xs ++ y ∷ []) i)
Path-links R x [] y p zero l = p
Path-links R x [] y p (suc i) l = absurd (omega (arith, l))
Path-links R x (c ∷ cs) y p zero l = p.0
Path-links R x (c ∷ cs) y p (suc i) l = Path-links R c cs y p.1 i (omega (arith, l))

-- what comes next in a list is what comes after its first, and then its first
next_in-is : (x : ℕ) (xs : List ℕ) (i : ℕ) → i ≤ length xs → next_in (x ∷ xs) i ≡ slice_index (xs ++ x ∷ []) i
next_in-is x xs i l = ⊎_elim
    (λ inner. ap (λ b. cond {A = ℕ} b (slice_index (x ∷ xs) (i + 1)) x) (lt-ltb (i + 1) (suc (length xs)) (omega (arith, inner)))
    ∙ (ap (slice_index (x ∷ xs)) (let more : i + 1 ≡ suc i = omega arith in more) ∙ sym (get_or_append_left xs (x ∷ []) 0 i inner)))
    (λ last. ap (λ b. cond {A = ℕ} b (slice_index (x ∷ xs) (i + 1)) x) (le-ltb (i + 1) (suc (length xs)) (omega (arith, last)))
    ∙ sym (get_or_push xs x 0 i (let same : length xs ≡ i = omega (arith, l, last) in same)))
    (cases_lt i (length xs))

pub IsLinked-cycle : (trace : List Event) (cycle : List ℕ) → 2 ≤ length cycle → IsLinked trace cycle (length cycle) ↔ IsCycle (Edge trace) cycle
IsLinked-cycle trace [] long = absurd (omega (arith, long))
IsLinked-cycle trace (a ∷ []) long = absurd (omega (arith, long))
IsLinked-cycle trace (a ∷ b ∷ rest) long = (
  (λ w. Path-by (Edge trace) a (b ∷ rest) a (λ i l. subst (Edge trace (slice_index (a ∷ b ∷ rest) i)) (next_in-is a (b ∷ rest) i l) (w.each i (omega (arith, l))))),
  (λ p. record { each = λ i l. subst (Edge trace (slice_index (a ∷ b ∷ rest) i)) (sym (next_in-is a (b ∷ rest) i (omega (arith, l)))) (Path-links (Edge trace) a (b ∷ rest) a p i (omega (arith, l))) }),
)

-- a cycle has at least two
pub IsCycle-long : (trace : List Event) (cycle : List ℕ) → IsCycle (Edge trace) cycle → 2 ≤ length cycle
IsCycle-long trace [] c = absurd c
IsCycle-long trace (a ∷ []) c = absurd c
IsCycle-long trace (a ∷ b ∷ rest) c = omega arith
