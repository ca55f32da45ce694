-- A run that stands for a trace: it has a cycle where the trace has one. Both grow event by event.
use Rattle.std.proofs.Common.{◌≡◌, ◌≢◌, ℕ, suc, ◌+◌, ◌-◌, ◌<◌, ◌≤◌, Bool, true, false, cond, eqb, List, [], ◌∷◌, ◌++◌, length, take, Some, refl, sym, ap, ◌∙◌, subst, arith, length-append, ⊎_elim, inl, inr}
use Rattle.std.specs.Prelude.{◌⊎◌, ◌==◌, ◌||◌, ◌&&◌, if◌then◌else◌, slice_get, IsTrue, IsFalse}
use Rattle.std.proofs.Math.Seq.{take-append_seam, take-length}
use Rattle.std.proofs.lemmas.Bool.{and_from, and_parts, both_ways, cases_eq, cases_lt, eq-eqb, eqb-true, ne_eqb, false≢true, false_from_ne_true}
use Rattle.std.proofs.lemmas.List.{append-nil, append_assoc, length_push, take-append-le}
use Rattle.std.proofs.lemmas.Option.{slice_get_within, same_Some}
use Rattle.velo_events.specs.declared.config.Bounds.{Bounds}
use Rattle.velo_events.specs.declared.event.Event.{Event}
use Rattle.velo_events.specs.declared.event.Access.{Access}
use Rattle.velo_events.specs.Block.{passes_at, is_open_at, is_in_block, owner, IsTransaction, IsUnfinished}
use Rattle.velo_events.specs.Conflict.{conflict}
use Rattle.velo_events.specs.Event.{thread_of, is_by, is_begin, is_begin_by, is_end, is_end_by, access_of, are_same, cell_of, is_exclusive, forked_or_joined_of}
use Rattle.velo_events.specs.Graph.{Path, Reaches, IsCycle, Edge, HasCycle, ConflictsInOrder, HappensBefore, both_conflict, conflict_at}
use Rattle.velo_events.specs.Heap.{times, depth_in}
use Rattle.velo_events.specs.Scan.{begins, ends}
use Rattle.velo_events.specs.Reordering.{IsSelfSerializable}
use Rattle.velo_events.specs.WellFormed.{IsWellFormed}
use Rattle.velo_events.proofs.OnBlocks.{is_in_block-append, is_open_at-append, owner-append, owner-le}
use Rattle.velo_events.proofs.OnGraphs.{Reaches-trans, newest, take-all_push}
use Rattle.velo_events.proofs.OnHappening.{ConflictsInOrder-before, IsFrom, IsFrom-append, IsFrom-next, IsFrom-reaches}
use Rattle.velo_events.proofs.OnLookUps.{conflict_at-events}
use Rattle.velo_events.proofs.OnOwners.{is_in_block-open, is_in_block-parts, is_in_block-thread, is_open_at-thread, is_open_at-within, newest-alone, newest-last, newest-le, newest-not_alone, owner-between, passes_at-one_thread, passes_at-within}
use Rattle.velo_events.proofs.OnReaching.{HasCycle-from_on}
use Rattle.velo_events.proofs.OnReorderings.{conflict_at-within, not_self_serializable}
use Rattle.velo_events.proofs.OnScans.{IsOpenAt-begin, IsOpenAt-from, IsOpenAt-more, IsOpenAt-to, event_at, owner-thread, passes_at-event, passes_at-is}
use Rattle.velo_events.proofs.OnTraces.{slice_get-append, slice_get-push, times-push}
use Rattle.velo_events.proofs.OnUnfinished.{IsTransaction-owner, IsUnfinished-push, IsUnfinished-push_cases, is_open_at-before, is_open_at-other, depth_in-none, depth_in-some, newest-begun, newest-of_unfinished, newest-own, newest-still_unfinished, newest-unfinished, unfinished-block}

-- ---- a function with one place changed

placed : (ℕ → ℕ) → ℕ → ℕ → ℕ → ℕ
placed f n x k = cond (k == n) x (f k)

placed-there : (f : ℕ → ℕ) (n x : ℕ) → placed f n x n ≡ x
unfolding placed
placed-there f n x = ap (λ b. cond b x (f n)) (eq-eqb n n refl)

placed-before : (f : ℕ → ℕ) (n x k : ℕ) → k < n → placed f n x k ≡ f k
unfolding placed
placed-before f n x k less = ap (λ b. cond b x (f k)) (ne_eqb k n (λ same. omega (arith, same, less)))

-- ---- events that conflict with the same

-- both are of one thread, and bear on the same
pub record IsTwin (e f : Event) : Type 0 where
  pub by : thread_of f ≡ thread_of e
  pub access : access_of f.kind ≡ access_of e.kind

conflict_by : ℕ → Access → ℕ → Access → Bool
conflict_by t a u b =
    (t == u)
    || (are_same (cell_of a) (cell_of b) && (is_exclusive a || is_exclusive b))
    || are_same (forked_or_joined_of a) (Some u)
    || are_same (forked_or_joined_of b) (Some t)

pub twins-conflict : (e f g h : Event) → IsTwin e f → IsTwin g h → IsTrue (conflict e g) → IsTrue (conflict f h)
unfolding conflict_by
twins-conflict e f g h one other c =
    let left : conflict_by (thread_of f) (access_of f.kind) (thread_of h) (access_of h.kind) ≡ conflict_by (thread_of e) (access_of e.kind) (thread_of g) (access_of g.kind) =
    ap (λ t. conflict_by t (access_of f.kind) (thread_of h) (access_of h.kind)) one.by
    ∙ (ap (λ a. conflict_by (thread_of e) a (thread_of h) (access_of h.kind)) one.access
    ∙ (ap (λ t. conflict_by (thread_of e) (access_of e.kind) t (access_of h.kind)) other.by
    ∙ ap (λ a. conflict_by (thread_of e) (access_of e.kind) (thread_of g) a) other.access)) in
    left ∙ c

-- the events at two places that conflict
pub conflict-at : (trace : List Event) (i j : ℕ) (e g : Event) → slice_get trace i ≡ Some e → slice_get trace j ≡ Some g → IsTrue (conflict_at trace i j) → IsTrue (conflict e g)
unfolding conflict_at
conflict-at trace i j e g here there c = sym (ap (λ o. both_conflict o (slice_get trace j)) here ∙ ap (λ o. both_conflict (Some e) o) there) ∙ c

-- ---- the run that stands for a trace

-- a block of thread t that begins at b and is open has its like at c, begun after as many begins and ends of the thread
pub record HasOpen (q r : List Event) (t b c : ℕ) : Type 0 where
  pub opened : IsTrue (is_open_at r t c (length r))
  pub same_begins : begins q t b ≡ begins r t c
  pub same_ends : ends q t b ≡ ends r t c

-- Each event of the trace has a place, an event of its thread in the run. What happens after it in the trace happens so after its
-- place. And it has a twin, which conflicts with the same, and is its place or happens after it. The places of a transaction are
-- in one transaction, those of a block in one block. A block of a thread that goes on is open in both
pub record Stands (q r : List Event) (GoesOn : ℕ → Type 0) : Type 0 where
  pub place : ℕ → ℕ
  pub twin : ℕ → ℕ
  pub twins : (i : ℕ) (e : Event) → slice_get q i ≡ Some e → (f : Event) × (slice_get r (twin i) ≡ Some f) × IsTwin e f
  pub places : (i : ℕ) (e : Event) → slice_get q i ≡ Some e → (f : Event) × (slice_get r (place i) ≡ Some f) × (thread_of f ≡ thread_of e)
  pub leaves : (i : ℕ) → i < length q → IsFrom r (place i) (twin i)
  pub ordered : (i j : ℕ) → ConflictsInOrder q i j → IsFrom r (place i) (place j)
  pub together : (i j : ℕ) → i < length q → j < length q → owner q i ≡ owner q j → owner r (place i) ≡ owner r (place j)
  pub begun : (b : ℕ) (e : Event) → slice_get q b ≡ Some e → IsTrue (is_begin e.kind) → slice_get r (place b) ≡ Some e
  pub inside : (b i : ℕ) → i < length q → IsTrue (is_in_block q b i) → IsTrue (is_in_block r (place b) (place i))
  pub open_outer : (t : ℕ) → GoesOn t → (b : ℕ) → IsUnfinished q b → IsTrue (passes_at q (is_by t) b) → IsUnfinished r (owner r (place b))
  pub open_inner : (t : ℕ) → GoesOn t → (b : ℕ) → IsTrue (is_open_at q t b (length q)) → HasOpen q r t b (place b)

-- ---- a cycle of the trace

-- an edge within a thread leads forward
edge-rises : (q : List Event) (a b t : ℕ) (g : Edge q a b) → IsTrue (passes_at q (is_by t) g.from) → IsTrue (passes_at q (is_by t) g.to) → a < b
edge-rises q a b t g own_from own_to =
    ⊎_elim (λ less. less) (λ le.
    let before : b < a = ⊎_elim (λ same. absurd (g.differ same)) (λ other. omega (arith, le, other)) (cases_eq a b) in
    let from_le = owner-le q g.from in
    let rises : b < g.to = omega (arith, before, from_le, g.of_from, g.in_order) in
    let first : owner q b ≡ b = subst (λ x. owner q x ≡ x) g.of_to (IsTransaction-owner q g.to g.in_trace).first in
    absurd (g.differ (sym g.of_from ∙ (owner-between q t b g.from g.to rises (omega (arith, before, from_le, g.of_from)) (omega (arith, g.in_order)) own_from own_to (first ∙ sym g.of_to) ∙ g.of_to))))
    (cases_lt a b)

-- an edge between two threads
record Crosses (q : List Event) (a b : ℕ) : Type 0 where
  edge : Edge q a b
  from : Event
  to : Event
  here : slice_get q edge.from ≡ Some from
  there : slice_get q edge.to ≡ Some to
  other : thread_of from ≢ thread_of to

edge-cases : (q : List Event) (a b : ℕ) → Edge q a b → (a < b) ⊎ Crosses q a b
edge-cases q a b g =
    let e = event_at q g.from (omega (arith, g.in_order, g.in_trace)) in
    let f = event_at q g.to g.in_trace in
    ⊎_elim
    (λ same. inl (edge-rises q a b (thread_of f.0) g (passes_at-is q (is_by (thread_of f.0)) g.from e.0 e.1 ∙ eq-eqb (thread_of e.0) (thread_of f.0) same) (passes_at-is q (is_by (thread_of f.0)) g.to f.0 f.1 ∙ eq-eqb (thread_of f.0) (thread_of f.0) refl)))
    (λ other. inr (record { edge = g; from = e.0; to = f.0; here = e.1; there = f.1; other = other }))
    (cases_eq (thread_of e.0) (thread_of f.0))

path-cases : (q : List Event) (a : ℕ) (between : List ℕ) (b : ℕ) → Path (Edge q) a between b → (a < b) ⊎ ((c : ℕ) × (d : ℕ) × Crosses q c d × Reaches (Edge q) a c × Reaches (Edge q) d b)
path-cases q a [] b p = ⊎_elim (λ less. inl less) (λ g. inr (a, b, g, inl refl, inl refl)) (edge-cases q a b p)
path-cases q a (c ∷ cs) b p =
    ⊎_elim
    (λ less. ⊎_elim (λ more. inl (omega (arith, less, more))) (λ w. inr (w.0, w.1, w.2, Reaches-trans (Edge q) a c w.0 (inr ([], p.0)) w.3, w.4)) (path-cases q c cs b p.1))
    (λ g. inr (a, c, g, inl refl, inr (cs, p.1)))
    (edge-cases q a c p.0)

crossing : (q : List Event) (cycle : List ℕ) → IsCycle (Edge q) cycle → (c : ℕ) × (d : ℕ) × Crosses q c d × Reaches (Edge q) d c
crossing q [] h = absurd h
crossing q (a ∷ []) h = absurd h
crossing q (a ∷ b ∷ rest) h =
    ⊎_elim (λ less. absurd (omega (arith, less))) (λ w. (w.0, w.1, w.2, Reaches-trans (Edge q) w.1 a w.0 w.4 w.3)) (path-cases q a (b ∷ rest) a h)

module _ (q r : List Event) (GoesOn : ℕ → Type 0) (stands : Stands q r GoesOn) where
  place_event : (i : ℕ) → i < length q → (f : Event) × (slice_get r (stands.place i) ≡ Some f)
  place_event i within =
      let e = event_at q i within in
      let f = stands.places i e.0 e.1 in
      (f.0, f.1)

  pub place_within : (i : ℕ) → i < length q → stands.place i < length r
  place_within i within = let f = place_event i within in slice_get_within r (stands.place i) f.0 f.1

  -- the transaction of a place is of the thread
  pub home_own : (i : ℕ) (e : Event) → slice_get q i ≡ Some e → IsTrue (passes_at r (is_by (thread_of e)) (owner r (stands.place i)))
  home_own i e at =
      let f = stands.places i e at in
      let within = slice_get_within r (stands.place i) f.0 f.1 in
      let g = event_at r (owner r (stands.place i)) (omega (arith, within, owner-le r (stands.place i))) in
      passes_at-is r (is_by (thread_of e)) (owner r (stands.place i)) g.0 g.1 ∙ eq-eqb (thread_of g.0) (thread_of e) (owner-thread r (stands.place i) f.0 g.0 f.1 g.1 ∙ f.2)

  edge_home : (a b : ℕ) (g : Edge q a b) → Reaches (Edge r) (owner r (stands.place g.from)) (owner r (stands.place g.to))
  edge_home a b g = IsFrom-reaches r (stands.place g.from) (stands.place g.to) (stands.ordered g.from g.to (g.in_order, g.in_conflict))

  edge_between : (a b : ℕ) (g : Edge q a b) (i j : ℕ) → i < length q → j < length q → owner q i ≡ a → owner q j ≡ b → Reaches (Edge r) (owner r (stands.place i)) (owner r (stands.place j))
  edge_between a b g i j in_i in_j of_i of_j =
      let from : owner r (stands.place i) ≡ owner r (stands.place g.from) = stands.together i g.from in_i (omega (arith, g.in_order, g.in_trace)) (of_i ∙ sym g.of_from) in
      let to : owner r (stands.place g.to) ≡ owner r (stands.place j) = stands.together g.to j g.in_trace in_j (g.of_to ∙ sym of_j) in
      subst (λ x. Reaches (Edge r) x (owner r (stands.place j))) (sym from) (subst (λ x. Reaches (Edge r) (owner r (stands.place g.from)) x) to (edge_home a b g))

  path_home : (a : ℕ) (between : List ℕ) (b : ℕ) → Path (Edge q) a between b → (i j : ℕ) → i < length q → j < length q → owner q i ≡ a → owner q j ≡ b → Reaches (Edge r) (owner r (stands.place i)) (owner r (stands.place j))
  path_home a [] b g i j in_i in_j of_i of_j = edge_between a b g i j in_i in_j of_i of_j
  path_home a (c ∷ cs) b p i j in_i in_j of_i of_j =
      Reaches-trans (Edge r) (owner r (stands.place i)) (owner r (stands.place p.0.to)) (owner r (stands.place j))
      (edge_between a c p.0 i p.0.to in_i p.0.in_trace of_i p.0.of_to)
      (path_home c cs b p.1 p.0.to j p.0.in_trace in_j p.0.of_to of_j)

  pub stands-cycle : HasCycle q → HasCycle r
  stands-cycle cyclic =
      let w = crossing q cyclic.cycle cyclic.is_cycle in
      let g = w.2.edge in
      let in_from : g.from < length q = omega (arith, g.in_order, g.in_trace) in
      HasCycle-from_on r (owner r (stands.place g.from)) (record {
        other = owner r (stands.place g.to);
        differ = λ same. w.2.other (passes_at-one_thread r (thread_of w.2.from) (thread_of w.2.to) (owner r (stands.place g.from)) (home_own g.from w.2.from w.2.here) (subst (λ x. IsTrue (passes_at r (is_by (thread_of w.2.to)) x)) (sym same) (home_own g.to w.2.to w.2.there)));
        there = edge_home w.0 w.1 g;
        back = ⊎_elim
            (λ same. inl (stands.together g.to g.from g.in_trace in_from (g.of_to ∙ (same ∙ sym g.of_from))))
            (λ p. path_home w.1 p.0 w.0 p.1 g.to g.from g.in_trace in_from g.of_to g.of_from) w.3;
      })

  -- ---- a block that is not self-serializable

  path_place : (i : ℕ) (between : List ℕ) (j : ℕ) → Path (ConflictsInOrder q) i between j → IsFrom r (stands.place i) (stands.place j)
  path_place i [] j c = stands.ordered i j c
  path_place i (k ∷ ks) j p = Reaches-trans (ConflictsInOrder r) (stands.place i) (stands.place k) (stands.place j) (stands.ordered i k p.0) (path_place k ks j p.1)

  -- between places of different threads
  happens : (i j : ℕ) (d e : Event) → slice_get q i ≡ Some d → slice_get q j ≡ Some e → thread_of d ≢ thread_of e → HappensBefore q i j → HappensBefore r (stands.place i) (stands.place j)
  happens i j d e here there other h = ⊎_elim
      (λ same.
      let f = stands.places i d here in
      let g = stands.places j e there in
      absurd (other (sym f.2 ∙ (ap thread_of (same_Some f.0 g.0 (sym f.1 ∙ (ap (slice_get r) same ∙ g.1))) ∙ g.2))))
      (λ leads. leads)
      (path_place i h.0 j h.1)

  -- a block through which a chain of conflicts leads by another thread has its like in the run
  pub stands-interrupted : (b middle last : ℕ) (d m e : Event) → slice_get q b ≡ Some d → slice_get q middle ≡ Some m → slice_get q last ≡ Some e → thread_of d ≡ thread_of e → thread_of m ≢ thread_of d → IsTrue (is_in_block q b last) → HappensBefore q b middle → HappensBefore q middle last → ¬ IsSelfSerializable r (stands.place b)
  stands-interrupted b middle last d m e at_b at_m at_last same other within out back =
      let in_last = slice_get_within q last e at_last in
      let inner = stands.inside b last in_last within in
      let parts = is_in_block-parts r (stands.place b) (stands.place last) inner in
      let begins_it : IsTrue (is_in_block r (stands.place b) (stands.place b)) =
      is_in_block-open r parts.1.0 (stands.place b) (stands.place last) (stands.place b) parts.1.2 (omega arith) parts.0 (is_open_at-thread r parts.1.0 (stands.place b) (stands.place last) parts.1.2) in
      let middle_event = stands.places middle m at_m in
      let last_event = stands.places last e at_last in
      not_self_serializable r (stands.place b) (stands.place b) (stands.place middle) (stands.place last) begins_it
      (false_from_ne_true _ (λ in_it.
      let own = is_in_block-thread r parts.1.0 (stands.place b) (stands.place last) (stands.place middle) parts.1.2 in_it in
      let own_middle : IsTrue (passes_at r (is_by (thread_of m)) (stands.place middle)) = passes_at-is r (is_by (thread_of m)) (stands.place middle) middle_event.0 middle_event.1 ∙ eq-eqb (thread_of middle_event.0) (thread_of m) middle_event.2 in
      let own_last : IsTrue (passes_at r (is_by (thread_of e)) (stands.place last)) = passes_at-is r (is_by (thread_of e)) (stands.place last) last_event.0 last_event.1 ∙ eq-eqb (thread_of last_event.0) (thread_of e) last_event.2 in
      absurd (other (passes_at-one_thread r (thread_of m) parts.1.0 (stands.place middle) own_middle own ∙ (sym (passes_at-one_thread r (thread_of e) parts.1.0 (stands.place last) own_last parts.1.1) ∙ sym same)))))
      inner
      (happens b middle d m at_b at_m (λ h. other (sym h)) out)
      (happens middle last m e at_m at_last (λ h. other (h ∙ sym same)) back)

-- ---- the start

pub Stands-nil : (GoesOn : ℕ → Type 0) → Stands [] [] GoesOn
Stands-nil GoesOn = record {
  place = λ i. i;
  twin = λ i. i;
  twins = λ i e at. absurd (omega (arith, slice_get_within {A = Event} [] i e at));
  places = λ i e at. absurd (omega (arith, slice_get_within {A = Event} [] i e at));
  leaves = λ i within. absurd (omega (arith, within));
  ordered = λ i j c. absurd (omega (arith, (conflict_at-within [] i j c.1).1));
  together = λ i j in_i in_j same. absurd (omega (arith, in_i));
  begun = λ b e at begin. absurd (omega (arith, slice_get_within {A = Event} [] b e at));
  inside = λ b i within h. absurd (omega (arith, within));
  open_outer = λ t goes b u own. absurd (omega (arith, u.transaction.within));
  open_inner = λ t goes b opened. absurd (omega (arith, is_open_at-within [] t b (length {A = Event} []) opened));
}

passes_at-append : (r more : List Event) (t i : ℕ) → IsTrue (passes_at r (is_by t) i) → IsTrue (passes_at (r ++ more) (is_by t) i)
passes_at-append r more t i h =
    let e = passes_at-event r (is_by t) i h in
    passes_at-is (r ++ more) (is_by t) i e.0 (slice_get-append r more i (slice_get_within r i e.0 e.1) ∙ e.1) ∙ e.2

passes_at-shorter : (r more : List Event) (t i : ℕ) → i < length r → IsTrue (passes_at (r ++ more) (is_by t) i) → IsTrue (passes_at r (is_by t) i)
passes_at-shorter r more t i within h =
    let e = event_at r i within in
    passes_at-is r (is_by t) i e.0 e.1 ∙ (sym (passes_at-is (r ++ more) (is_by t) i e.0 (slice_get-append r more i within ∙ e.1)) ∙ h)

-- the last event, and those before it
pub last_or_before : (q : List Event) (e : Event) (i : ℕ) (f : Event) → slice_get (q ++ e ∷ []) i ≡ Some f → ((i < length q) × (slice_get q i ≡ Some f)) ⊎ ((i ≡ length q) × (e ≡ f))
last_or_before q e i f at =
    ⊎_elim
    (λ below. inl (below, sym (slice_get-append q (e ∷ []) i below) ∙ at))
    (λ above.
    let place : i ≡ length q = omega (arith, above, slice_get_within (q ++ e ∷ []) i f at, length-append q (e ∷ [])) in
    inr (place, same_Some e f (sym (slice_get-push q e) ∙ subst (λ k. slice_get (q ++ e ∷ []) k ≡ Some f) place at)))
    (cases_lt i (length q))

-- counts up to a place do not change
begins-append : (es more : List Event) (t b : ℕ) → b ≤ length es → begins (es ++ more) t b ≡ begins es t b
begins-append es more t b within = ap (times (is_begin_by t)) (take-append-le b es more within)

ends-append : (es more : List Event) (t b : ℕ) → b ≤ length es → ends (es ++ more) t b ≡ ends es t b
ends-append es more t b within = ap (times (is_end_by t)) (take-append-le b es more within)

HasOpen-append : (q r more rest : List Event) (t b c : ℕ) → b ≤ length q → c ≤ length r → IsTrue (is_open_at (r ++ rest) t c (length (r ++ rest))) → HasOpen q r t b c → HasOpen (q ++ more) (r ++ rest) t b c
HasOpen-append q r more rest t b c in_q in_r opened h = record {
  opened = opened;
  same_begins = begins-append q more t b in_q ∙ (h.same_begins ∙ sym (begins-append r rest t c in_r));
  same_ends = ends-append q more t b in_q ∙ (h.same_ends ∙ sym (ends-append r rest t c in_r));
}

-- ---- one event more in both

-- what one event of the trace and one of the run have to do with each other
pub record GoAlong (q r : List Event) (e f : Event) : Type 0 where
  pub twin : IsTwin e f
  pub begin : is_begin e.kind ≡ is_begin f.kind
  pub end : is_end e.kind ≡ is_end f.kind
  pub same : IsTrue (is_begin e.kind) → e ≡ f
  pub bounds : Bounds
  pub trace_before : IsWellFormed bounds q
  pub trace_after : IsWellFormed bounds (q ++ e ∷ [])
  pub run_before : IsWellFormed bounds r
  pub run_after : IsWellFormed bounds (r ++ f ∷ [])
  pub begins_before : times (is_begin_by (thread_of e)) q ≡ times (is_begin_by (thread_of e)) r
  pub ends_before : times (is_end_by (thread_of e)) q ≡ times (is_end_by (thread_of e)) r

module _ (q r : List Event) (e f : Event) (GoesOn Later : ℕ → Type 0) (stands : Stands q r GoesOn) (goes : GoesOn (thread_of e)) (later : (t : ℕ) → Later t → GoesOn t) (along : GoAlong q r e f) where
  begins_after : times (is_begin_by (thread_of e)) (q ++ e ∷ []) ≡ times (is_begin_by (thread_of e)) (r ++ f ∷ [])
  begins_after =
      times-push (is_begin_by (thread_of e)) q e
      ∙ (ap (λ n. n + (if is_begin_by (thread_of e) e then 1 else 0)) along.begins_before
      ∙ (ap (λ b. times (is_begin_by (thread_of e)) r + (if b then 1 else 0)) (ap (λ b. is_by (thread_of e) e && b) along.begin ∙ ap (λ t. (t == thread_of e) && is_begin f.kind) (sym along.twin.by))
      ∙ sym (times-push (is_begin_by (thread_of e)) r f)))

  ends_after : times (is_end_by (thread_of e)) (q ++ e ∷ []) ≡ times (is_end_by (thread_of e)) (r ++ f ∷ [])
  ends_after =
      times-push (is_end_by (thread_of e)) q e
      ∙ (ap (λ n. n + (if is_end_by (thread_of e) e then 1 else 0)) along.ends_before
      ∙ (ap (λ b. times (is_end_by (thread_of e)) r + (if b then 1 else 0)) (ap (λ b. is_by (thread_of e) e && b) along.end ∙ ap (λ t. (t == thread_of e) && is_end f.kind) (sym along.twin.by))
      ∙ sym (times-push (is_end_by (thread_of e)) r f)))

  depth_before : depth_in q (thread_of e) ≡ depth_in r (thread_of e)
  depth_before = ap (λ n. n - times (is_end_by (thread_of e)) q) along.begins_before ∙ ap (λ n. times (is_begin_by (thread_of e)) r - n) along.ends_before

  depth_after : depth_in (q ++ e ∷ []) (thread_of e) ≡ depth_in (r ++ f ∷ []) (thread_of e)
  depth_after = ap (λ n. n - times (is_end_by (thread_of e)) (q ++ e ∷ [])) begins_after ∙ ap (λ n. times (is_begin_by (thread_of e)) (r ++ f ∷ []) - n) ends_after

  place_one : ℕ → ℕ
  place_one = placed stands.place (length q) (length r)

  twin_one : ℕ → ℕ
  twin_one = placed stands.twin (length q) (length r)

  place_one-before : (i : ℕ) → i < length q → place_one i ≡ stands.place i
  unfolding place_one
  place_one-before i before = placed-before stands.place (length q) (length r) i before

  place_one-there : (i : ℕ) → i ≡ length q → place_one i ≡ length r
  unfolding place_one
  place_one-there i there = ap (placed stands.place (length q) (length r)) there ∙ placed-there stands.place (length q) (length r)

  twin_one-before : (i : ℕ) → i < length q → twin_one i ≡ stands.twin i
  unfolding twin_one
  twin_one-before i before = placed-before stands.twin (length q) (length r) i before

  twin_one-there : (i : ℕ) → i ≡ length q → twin_one i ≡ length r
  unfolding twin_one
  twin_one-there i there = ap (placed stands.twin (length q) (length r)) there ∙ placed-there stands.twin (length q) (length r)

  in_run : (i : ℕ) → i < length q → stands.place i < length r
  in_run i before = place_within q r GoesOn stands i before

  home_one-before : (i : ℕ) → i < length q → owner (r ++ f ∷ []) (place_one i) ≡ owner r (stands.place i)
  home_one-before i before = ap (owner (r ++ f ∷ [])) (place_one-before i before) ∙ owner-append r (f ∷ []) (stands.place i) (in_run i before)

  home_one-there : (i : ℕ) → i ≡ length q → owner (r ++ f ∷ []) (place_one i) ≡ newest r f
  home_one-there i there = ap (owner (r ++ f ∷ [])) (place_one-there i there)

  -- the thread's transaction that is open goes on in both
  newest_home : IsTrue (passes_at q (is_by (thread_of e)) (newest q e)) → IsUnfinished q (newest q e) → newest r f ≡ owner r (stands.place (newest q e))
  newest_home own u =
      let g = event_at q (newest q e) u.transaction.within in
      newest-of_unfinished r f (owner r (stands.place (newest q e))) (stands.open_outer (thread_of e) goes (newest q e) u own)
      (subst (λ t. IsTrue (passes_at r (is_by t) (owner r (stands.place (newest q e))))) (eqb-true (thread_of g.0) (thread_of e) (sym (passes_at-is q (is_by (thread_of e)) (newest q e) g.0 g.1) ∙ own) ∙ sym along.twin.by) (home_own q r GoesOn stands (newest q e) g.0 g.1))

  newest_with : (j : ℕ) → j < length q → newest q e ≡ owner q j → newest r f ≡ owner r (stands.place j)
  newest_with j within same =
      let less : newest q e < length q = omega (arith, same, owner-le q j, within) in
      let u = newest-unfinished q e less in
      let own = passes_at-shorter q (e ∷ []) (thread_of e) (newest q e) less (newest-own q e) in
      newest_home own u ∙ stands.together (newest q e) j less within (u.transaction.first ∙ same)

  twins_one : (i : ℕ) (d : Event) → slice_get (q ++ e ∷ []) i ≡ Some d → (g : Event) × (slice_get (r ++ f ∷ []) (twin_one i) ≡ Some g) × IsTwin d g
  twins_one i d at =
      ⊎_elim
      (λ before. let g = stands.twins i d before.1 in
      (g.0, ap (slice_get (r ++ f ∷ [])) (twin_one-before i before.0) ∙ (slice_get-append r (f ∷ []) (stands.twin i) (slice_get_within r (stands.twin i) g.0 g.1) ∙ g.1), g.2))
      (λ last. (f, ap (slice_get (r ++ f ∷ [])) (twin_one-there i last.0) ∙ slice_get-push r f, subst (λ d. IsTwin d f) last.1 along.twin))
      (last_or_before q e i d at)

  places_one : (i : ℕ) (d : Event) → slice_get (q ++ e ∷ []) i ≡ Some d → (g : Event) × (slice_get (r ++ f ∷ []) (place_one i) ≡ Some g) × (thread_of g ≡ thread_of d)
  places_one i d at =
      ⊎_elim
      (λ before. let g = stands.places i d before.1 in
      (g.0, ap (slice_get (r ++ f ∷ [])) (place_one-before i before.0) ∙ (slice_get-append r (f ∷ []) (stands.place i) (slice_get_within r (stands.place i) g.0 g.1) ∙ g.1), g.2))
      (λ last. (f, ap (slice_get (r ++ f ∷ [])) (place_one-there i last.0) ∙ slice_get-push r f, along.twin.by ∙ ap thread_of last.1))
      (last_or_before q e i d at)

  leaves_one : (i : ℕ) → i < length (q ++ e ∷ []) → IsFrom (r ++ f ∷ []) (place_one i) (twin_one i)
  leaves_one i within =
      ⊎_elim
      (λ before.
      subst (λ x. IsFrom (r ++ f ∷ []) x (twin_one i)) (sym (place_one-before i before))
      (subst (λ x. IsFrom (r ++ f ∷ []) (stands.place i) x) (sym (twin_one-before i before))
      (IsFrom-append r (f ∷ []) (stands.place i) (stands.twin i) (stands.leaves i before))))
      (λ above.
      let there : i ≡ length q = omega (arith, above, within, length_push q e) in
      inl (place_one-there i there ∙ sym (twin_one-there i there)))
      (cases_lt i (length q))

  ordered_one : (i j : ℕ) → ConflictsInOrder (q ++ e ∷ []) i j → IsFrom (r ++ f ∷ []) (place_one i) (place_one j)
  ordered_one i j c =
      let in_j = (conflict_at-within (q ++ e ∷ []) i j c.1).1 in
      ⊎_elim
      (λ before_j.
      let before_i : i < length q = omega (arith, before_j, c.0) in
      subst (λ x. IsFrom (r ++ f ∷ []) x (place_one j)) (sym (place_one-before i before_i))
      (subst (λ x. IsFrom (r ++ f ∷ []) (stands.place i) x) (sym (place_one-before j before_j))
      (IsFrom-append r (f ∷ []) (stands.place i) (stands.place j) (stands.ordered i j (ConflictsInOrder-before q (e ∷ []) i j before_j c)))))
      (λ above.
      let there : j ≡ length q = omega (arith, above, in_j, length_push q e) in
      let before_i : i < length q = omega (arith, there, c.0) in
      let d = event_at q i before_i in
      let g = stands.twins i d.0 d.1 in
      let in_twin = slice_get_within r (stands.twin i) g.0 g.1 in
      let clash = conflict-at (q ++ e ∷ []) i (length q) d.0 e (slice_get-append q (e ∷ []) i before_i ∙ d.1) (slice_get-push q e) (subst (λ k. IsTrue (conflict_at (q ++ e ∷ []) i k)) there c.1) in
      subst (λ x. IsFrom (r ++ f ∷ []) x (place_one j)) (sym (place_one-before i before_i))
      (subst (λ x. IsFrom (r ++ f ∷ []) (stands.place i) x) (sym (place_one-there j there))
      (IsFrom-next (r ++ f ∷ []) (stands.place i) (stands.twin i) (length r) (IsFrom-append r (f ∷ []) (stands.place i) (stands.twin i) (stands.leaves i before_i))
      (in_twin, conflict_at-events (r ++ f ∷ []) (stands.twin i) (length r) g.0 f (slice_get-append r (f ∷ []) (stands.twin i) in_twin ∙ g.1) (slice_get-push r f) (twins-conflict d.0 g.0 e f g.2 along.twin clash)))))
      (cases_lt j (length q))

  -- the last event with an earlier one of its transaction
  together_last : (j : ℕ) → j < length q → newest q e ≡ owner (q ++ e ∷ []) j → newest r f ≡ owner (r ++ f ∷ []) (place_one j)
  together_last j within same = newest_with j within (same ∙ owner-append q (e ∷ []) j within) ∙ sym (home_one-before j within)

  together_one : (i j : ℕ) → i < length (q ++ e ∷ []) → j < length (q ++ e ∷ []) → owner (q ++ e ∷ []) i ≡ owner (q ++ e ∷ []) j → owner (r ++ f ∷ []) (place_one i) ≡ owner (r ++ f ∷ []) (place_one j)
  together_one i j in_i in_j same =
      ⊎_elim
      (λ before_i. ⊎_elim
      (λ before_j. home_one-before i before_i ∙ (stands.together i j before_i before_j (sym (owner-append q (e ∷ []) i before_i) ∙ (same ∙ owner-append q (e ∷ []) j before_j)) ∙ sym (home_one-before j before_j)))
      (λ above. let there : j ≡ length q = omega (arith, above, in_j, length_push q e) in
      sym (home_one-there j there ∙ together_last i before_i (sym (same ∙ ap (owner (q ++ e ∷ [])) there))))
      (cases_lt j (length q)))
      (λ above. let there : i ≡ length q = omega (arith, above, in_i, length_push q e) in
      ⊎_elim
      (λ before_j. home_one-there i there ∙ together_last j before_j (sym (ap (owner (q ++ e ∷ [])) there) ∙ same))
      (λ also. home_one-there i there ∙ sym (home_one-there j (omega (arith, also, in_j, length_push q e))))
      (cases_lt j (length q)))
      (cases_lt i (length q))

  -- a begin is the same event in both
  begun_one : (b : ℕ) (d : Event) → slice_get (q ++ e ∷ []) b ≡ Some d → IsTrue (is_begin d.kind) → slice_get (r ++ f ∷ []) (place_one b) ≡ Some d
  begun_one b d at begin =
      ⊎_elim
      (λ before. ap (slice_get (r ++ f ∷ [])) (place_one-before b before.0) ∙ (slice_get-append r (f ∷ []) (stands.place b) (in_run b before.0) ∙ stands.begun b d before.1 begin))
      (λ last. ap (slice_get (r ++ f ∷ [])) (place_one-there b last.0) ∙ (slice_get-push r f ∙ ap Some (sym (along.same (subst (λ g. IsTrue (is_begin g.kind)) (sym last.1) begin)) ∙ last.1)))
      (last_or_before q e b d at)

  own_f : IsTrue (passes_at (r ++ f ∷ []) (is_by (thread_of e)) (length r))
  own_f = passes_at-is (r ++ f ∷ []) (is_by (thread_of e)) (length r) f (slice_get-push r f) ∙ eq-eqb (thread_of f) (thread_of e) along.twin.by

  -- who begins a block at the last event is its thread
  begins_last : (t : ℕ) → IsTrue (is_open_at (q ++ e ∷ []) t (length q) (length (q ++ e ∷ []))) ⊎ IsTrue (is_open_at (q ++ e ∷ []) t (length q) (length q)) → (thread_of e ≡ t) × IsTrue (is_begin e.kind)
  begins_last t opened =
      let begun = ⊎_elim (λ h. (IsOpenAt-from (q ++ e ∷ []) t (length q) (length (q ++ e ∷ [])) h).begun) (λ h. (IsOpenAt-from (q ++ e ∷ []) t (length q) (length q) h).begun) opened in
      let d = passes_at-event (q ++ e ∷ []) (is_begin_by t) (length q) begun in
      let same : d.0 ≡ e = same_Some d.0 e (sym d.1 ∙ slice_get-push q e) in
      let parts = and_parts (is_by t d.0) (is_begin d.0.kind) d.2 in
      (ap thread_of (sym same) ∙ eqb-true (thread_of d.0) t parts.0, subst (λ g. IsTrue (is_begin g.kind)) same parts.1)

  -- a begin opens a block in the run too
  opens_last : IsTrue (is_begin e.kind) → IsTrue (is_open_at (r ++ f ∷ []) (thread_of e) (length r) (length r + 1))
  opens_last begin =
      IsOpenAt-to (r ++ f ∷ []) (thread_of e) (length r) (length r + 1)
      (IsOpenAt-begin (r ++ f ∷ []) (thread_of e) (length r) f (slice_get-push r f) (and_from (is_by (thread_of e) f) (is_begin f.kind) (eq-eqb (thread_of f) (thread_of e) along.twin.by) (sym along.begin ∙ begin)))

  inside_last : (b : ℕ) → IsTrue (is_in_block (q ++ e ∷ []) b (length q)) → IsTrue (is_in_block (r ++ f ∷ []) (place_one b) (length r))
  inside_last b h =
      let parts = is_in_block-parts (q ++ e ∷ []) b (length q) h in
      let by_t : thread_of e ≡ parts.1.0 =
      passes_at-one_thread (q ++ e ∷ []) (thread_of e) parts.1.0 (length q) (passes_at-is (q ++ e ∷ []) (is_by (thread_of e)) (length q) e (slice_get-push q e) ∙ eq-eqb (thread_of e) (thread_of e) refl) parts.1.1 in
      let opened : IsTrue (is_open_at (q ++ e ∷ []) (thread_of e) b (length q)) = subst (λ t. IsTrue (is_open_at (q ++ e ∷ []) t b (length q))) (sym by_t) parts.1.2 in
      ⊎_elim
      (λ before.
      let was = stands.open_inner (thread_of e) goes b (sym (is_open_at-append q (e ∷ []) (thread_of e) b (length q) before (omega arith)) ∙ opened) in
      let within = in_run b before in
      subst (λ x. IsTrue (is_in_block (r ++ f ∷ []) x (length r))) (sym (place_one-before b before))
      (is_in_block-open (r ++ f ∷ []) (thread_of e) (stands.place b) (length r) (length r) (is_open_at-append r (f ∷ []) (thread_of e) (stands.place b) (length r) within (omega arith) ∙ was.opened) (omega (arith, within)) (omega arith) own_f))
      (λ above.
      let there : b ≡ length q = omega (arith, above, parts.0) in
      let begin = (begins_last (thread_of e) (inr (subst (λ k. IsTrue (is_open_at (q ++ e ∷ []) (thread_of e) k (length q))) there opened))).1 in
      subst (λ x. IsTrue (is_in_block (r ++ f ∷ []) x (length r))) (sym (place_one-there b there))
      (is_in_block-open (r ++ f ∷ []) (thread_of e) (length r) (length r + 1) (length r) (opens_last begin) (omega arith) (omega arith) own_f))
      (cases_lt b (length q))

  inside_one : (b i : ℕ) → i < length (q ++ e ∷ []) → IsTrue (is_in_block (q ++ e ∷ []) b i) → IsTrue (is_in_block (r ++ f ∷ []) (place_one b) (place_one i))
  inside_one b i within h =
      ⊎_elim
      (λ before.
      let le = (is_in_block-parts (q ++ e ∷ []) b i h).0 in
      let before_b : b < length q = omega (arith, le, before) in
      let was = stands.inside b i before (sym (is_in_block-append q (e ∷ []) b i le before) ∙ h) in
      subst (λ x. IsTrue (is_in_block (r ++ f ∷ []) x (place_one i))) (sym (place_one-before b before_b))
      (subst (λ x. IsTrue (is_in_block (r ++ f ∷ []) (stands.place b) x)) (sym (place_one-before i before))
      (is_in_block-append r (f ∷ []) (stands.place b) (stands.place i) (is_in_block-parts r (stands.place b) (stands.place i) was).0 (in_run i before) ∙ was)))
      (λ above.
      let there : i ≡ length q = omega (arith, above, within, length_push q e) in
      subst (λ x. IsTrue (is_in_block (r ++ f ∷ []) (place_one b) x)) (sym (place_one-there i there)) (inside_last b (subst (λ k. IsTrue (is_in_block (q ++ e ∷ []) b k)) there h)))
      (cases_lt i (length q))

  -- the thread of the event has a block open after it, and so in the run
  still_open : (b : ℕ) → IsTrue (is_open_at (q ++ e ∷ []) (thread_of e) b (length (q ++ e ∷ []))) → (c : ℕ) × IsTrue (is_open_at (r ++ f ∷ []) (thread_of f) c (length (r ++ f ∷ [])))
  still_open b opened =
      ⊎_elim
      (λ none. absurd (both_ways (is_open_at (q ++ e ∷ []) (thread_of e) b (length (q ++ e ∷ []))) (depth_in-none along.bounds (q ++ e ∷ []) (thread_of e) along.trace_after (omega (arith, none)) b) opened))
      (λ some. depth_in-some along.bounds (r ++ f ∷ []) (thread_of f) along.run_after (subst (λ t. 0 < depth_in (r ++ f ∷ []) t) (sym along.twin.by) (omega (arith, some, depth_after))))
      (cases_lt (depth_in (q ++ e ∷ []) (thread_of e)) 1)

  -- it has none open before, and so in the run
  run_alone : newest q e ≡ length q → newest r f ≡ length r
  run_alone alone =
      let none : depth_in q (thread_of e) ≡ 0 = ⊎_elim (λ h. omega (arith, h)) (λ some. let w = depth_in-some along.bounds q (thread_of e) along.trace_before (omega (arith, some)) in absurd (both_ways (is_open_at q (thread_of e) w.0 (length q)) (newest-not_alone q e alone w.0) w.1)) (cases_lt (depth_in q (thread_of e)) 1) in
      newest-alone r f (λ b. depth_in-none along.bounds r (thread_of f) along.run_before (subst (λ t. depth_in r t ≡ 0) (sym along.twin.by) (omega (arith, none, depth_before))) b)

  same_open : (t : ℕ) → Later t → (b : ℕ) → IsUnfinished (q ++ e ∷ []) b → IsUnfinished q b → IsTrue (passes_at q (is_by t) b) → IsUnfinished (r ++ f ∷ []) (owner r (stands.place b))
  same_open t goes_on b after before own =
      let u = stands.open_outer t (later t goes_on) b before own in
      let d = event_at q b before.transaction.within in
      let by_t : thread_of d.0 ≡ t = eqb-true (thread_of d.0) t (sym (passes_at-is q (is_by t) b d.0 d.1) ∙ own) in
      let own_home : IsTrue (passes_at r (is_by t) (owner r (stands.place b))) = subst (λ s. IsTrue (passes_at r (is_by s) (owner r (stands.place b)))) by_t (home_own q r GoesOn stands b d.0 d.1) in
      ⊎_elim
      (λ same.
      let by_f : thread_of f ≡ t = along.twin.by ∙ same in
      let is_newest : newest r f ≡ owner r (stands.place b) = newest-of_unfinished r f (owner r (stands.place b)) u (subst (λ s. IsTrue (passes_at r (is_by s) (owner r (stands.place b)))) (sym by_f) own_home) in
      let opened = still_open b (subst (λ s. IsTrue (is_open_at (q ++ e ∷ []) s b (length (q ++ e ∷ [])))) (sym same) (unfinished-block (q ++ e ∷ []) t b after (passes_at-append q (e ∷ []) t b own))) in
      subst (IsUnfinished (r ++ f ∷ [])) is_newest (newest-still_unfinished r f opened.0 (omega (arith, is_newest, u.transaction.within)) opened.1))
      (λ other. IsUnfinished-push r f (owner r (stands.place b)) u (λ is_newest. other (passes_at-one_thread (r ++ f ∷ []) (thread_of e) t (newest r f) (subst (λ s. IsTrue (passes_at (r ++ f ∷ []) (is_by s) (newest r f))) along.twin.by (newest-own r f)) (subst (λ x. IsTrue (passes_at (r ++ f ∷ []) (is_by t) x)) (sym is_newest) (passes_at-append r (f ∷ []) t (owner r (stands.place b)) own_home)))))
      (cases_eq (thread_of e) t)

  outer_one : (t : ℕ) → Later t → (b : ℕ) → IsUnfinished (q ++ e ∷ []) b → IsTrue (passes_at (q ++ e ∷ []) (is_by t) b) → IsUnfinished (r ++ f ∷ []) (owner (r ++ f ∷ []) (place_one b))
  outer_one t goes_on b after own =
      ⊎_elim
      (λ before. subst (IsUnfinished (r ++ f ∷ [])) (sym (home_one-before b before.transaction.within)) (same_open t goes_on b after before (passes_at-shorter q (e ∷ []) t b before.transaction.within own)))
      (λ last.
      let alone = run_alone last.1 in
      subst (IsUnfinished (r ++ f ∷ [])) (sym (home_one-there b last.0 ∙ alone)) (newest-begun r f alone (sym along.begin ∙ last.2)))
      (IsUnfinished-push_cases q e b after)

  -- a block of the thread that the event leaves open in the trace it leaves open in the run
  inner_same : (b : ℕ) → b < length q → IsTrue (is_open_at (q ++ e ∷ []) (thread_of e) b (length (q ++ e ∷ []))) → HasOpen q r (thread_of e) b (stands.place b) → IsTrue (is_open_at (r ++ f ∷ []) (thread_of e) (stands.place b) (length (r ++ f ∷ [])))
  inner_same b before opened was =
      let t = thread_of e in
      let c = stands.place b in
      let within = in_run b before in
      let far = IsOpenAt-from (q ++ e ∷ []) t b (length (q ++ e ∷ [])) opened in
      let long = length_push q e in
      let all_begins : begins (q ++ e ∷ []) t (length q + 1) ≡ times (is_begin_by t) (q ++ e ∷ []) = ap (times (is_begin_by t)) (take-all_push q e) in
      let all_ends : ends (q ++ e ∷ []) t (length q + 1) ≡ times (is_end_by t) (q ++ e ∷ []) = ap (times (is_end_by t)) (take-all_push q e) in
      let run_begins : begins (r ++ f ∷ []) t (length r + 1) ≡ times (is_begin_by t) (r ++ f ∷ []) = ap (times (is_begin_by t)) (take-all_push r f) in
      let run_ends : ends (r ++ f ∷ []) t (length r + 1) ≡ times (is_end_by t) (r ++ f ∷ []) = ap (times (is_end_by t)) (take-all_push r f) in
      let b_begins = begins-append q (e ∷ []) t b (omega (arith, before)) in
      let b_ends = ends-append q (e ∷ []) t b (omega (arith, before)) in
      let c_begins = begins-append r (f ∷ []) t c (omega (arith, within)) in
      let c_ends = ends-append r (f ∷ []) t c (omega (arith, within)) in
      subst (λ n. IsTrue (is_open_at (r ++ f ∷ []) t c n)) (sym (length_push r f))
      (IsOpenAt-to (r ++ f ∷ []) t c (length r + 1)
      (IsOpenAt-more (r ++ f ∷ []) t c (length r) (IsOpenAt-from (r ++ f ∷ []) t c (length r) (is_open_at-append r (f ∷ []) t c (length r) within (omega arith) ∙ was.opened))
      (λ balanced. far.unbalanced (length q) (omega (arith, before)) (omega (arith, long))
      (omega (arith, balanced, all_begins, all_ends, run_begins, run_ends, b_begins, b_ends, c_begins, c_ends, was.same_begins, was.same_ends, begins_after, ends_after)))))

  inner_one : (t : ℕ) → Later t → (b : ℕ) → IsTrue (is_open_at (q ++ e ∷ []) t b (length (q ++ e ∷ []))) → HasOpen (q ++ e ∷ []) (r ++ f ∷ []) t b (place_one b)
  inner_one t goes_on b opened =
      ⊎_elim
      (λ before.
      let was = stands.open_inner t (later t goes_on) b (is_open_at-before q e t b before opened) in
      let within = in_run b before in
      subst (HasOpen (q ++ e ∷ []) (r ++ f ∷ []) t b) (sym (place_one-before b before))
      (HasOpen-append q r (e ∷ []) (f ∷ []) t b (stands.place b) (omega (arith, before)) (omega (arith, within))
      (⊎_elim
      (λ same. subst (λ s. IsTrue (is_open_at (r ++ f ∷ []) s (stands.place b) (length (r ++ f ∷ [])))) same
      (inner_same b before (subst (λ s. IsTrue (is_open_at (q ++ e ∷ []) s b (length (q ++ e ∷ [])))) (sym same) opened) (subst (λ s. HasOpen q r s b (stands.place b)) (sym same) was)))
      (λ other. is_open_at-other r f t (stands.place b) (λ same. other (sym along.twin.by ∙ same)) was.opened)
      (cases_eq (thread_of e) t))
      was))
      (λ above.
      let there : b ≡ length q = omega (arith, above, is_open_at-within (q ++ e ∷ []) t b (length (q ++ e ∷ [])) opened, length_push q e) in
      let its = begins_last t (inl (subst (λ k. IsTrue (is_open_at (q ++ e ∷ []) t k (length (q ++ e ∷ [])))) there opened)) in
      subst (HasOpen (q ++ e ∷ []) (r ++ f ∷ []) t b) (sym (place_one-there b there))
      (subst (λ k. HasOpen (q ++ e ∷ []) (r ++ f ∷ []) t k (length r)) (sym there)
      (subst (λ s. HasOpen (q ++ e ∷ []) (r ++ f ∷ []) s (length q) (length r)) its.0 (record {
        opened = subst (λ n. IsTrue (is_open_at (r ++ f ∷ []) (thread_of e) (length r) n)) (sym (length_push r f)) (opens_last its.1);
        same_begins = ap (times (is_begin_by (thread_of e))) (take-append_seam q (e ∷ [])) ∙ (along.begins_before ∙ sym (ap (times (is_begin_by (thread_of e))) (take-append_seam r (f ∷ []))));
        same_ends = ap (times (is_end_by (thread_of e))) (take-append_seam q (e ∷ [])) ∙ (along.ends_before ∙ sym (ap (times (is_end_by (thread_of e))) (take-append_seam r (f ∷ []))));
      }))))
      (cases_lt b (length q))

  pub grown_one : (grown : Stands (q ++ e ∷ []) (r ++ f ∷ []) Later) × ((i : ℕ) → i < length q → grown.place i ≡ stands.place i)
  grown_one = (
    record {
      place = place_one;
      twin = twin_one;
      twins = twins_one;
      places = places_one;
      leaves = leaves_one;
      ordered = ordered_one;
      together = together_one;
      begun = begun_one;
      inside = inside_one;
      open_outer = outer_one;
      open_inner = inner_one;
    },
    place_one-before,
  )

-- ---- one event more in the trace, after which its thread goes on no further, and any number of that thread in the run

-- the event of a thread that gives up a lock, its last event before, and what stands for the event in the run
pub record GivesUp (q r : List Event) (e : Event) (more : List Event) (GoesOn : ℕ → Type 0) (stands : Stands q r GoesOn) : Type 0 where
  pub no_begin : IsFalse (is_begin e.kind)
  pub last : ℕ
  pub event : Event
  pub here : slice_get q last ≡ Some event
  pub by : thread_of event ≡ thread_of e
  pub none_later : (k : ℕ) → last < k → IsFalse (passes_at q (is_by (thread_of e)) k)
  pub alone : (k : ℕ) (g : Event) → slice_get more k ≡ Some g → thread_of g ≡ thread_of e
  -- what conflicts with the event leads to the thread's last place
  pub reached : (i : ℕ) → IsTrue (conflict_at (q ++ e ∷ []) i (length q)) → i < length q → IsFrom r (stands.place i) (stands.place last)
  pub twin : ℕ
  pub twin_event : Event
  pub twin_here : slice_get (r ++ more) twin ≡ Some twin_event
  pub is_twin : IsTwin e twin_event
  pub left : IsFrom (r ++ more) (stands.place last) twin

IsUnfinished-other : (r more : List Event) (t u b : ℕ) → t ≢ u → ((k : ℕ) (g : Event) → slice_get more k ≡ Some g → thread_of g ≡ u) → IsTrue (passes_at r (is_by t) b) → IsUnfinished r b → IsUnfinished (r ++ more) b
IsUnfinished-other r [] t u b other alone own unfinished = subst (λ es. IsUnfinished es b) (sym (append-nil r)) unfinished
IsUnfinished-other r (g ∷ more) t u b other alone own unfinished =
    subst (λ es. IsUnfinished es b) (append_assoc r (g ∷ []) more)
    (IsUnfinished-other (r ++ g ∷ []) more t u b other (λ k h at. alone (suc k) h at) (passes_at-append r (g ∷ []) t b own)
    (IsUnfinished-push r g b unfinished (λ is_newest. other (sym (sym (alone 0 g refl) ∙ passes_at-one_thread (r ++ g ∷ []) (thread_of g) t (newest r g) (newest-own r g) (subst (λ x. IsTrue (passes_at (r ++ g ∷ []) (is_by t) x)) (sym is_newest) (passes_at-append r (g ∷ []) t b own)))))))

is_open_at-others : (r more : List Event) (t u b : ℕ) → t ≢ u → ((k : ℕ) (g : Event) → slice_get more k ≡ Some g → thread_of g ≡ u) → IsTrue (is_open_at r t b (length r)) → IsTrue (is_open_at (r ++ more) t b (length (r ++ more)))
is_open_at-others r [] t u b other alone opened = subst (λ es. IsTrue (is_open_at es t b (length es))) (sym (append-nil r)) opened
is_open_at-others r (g ∷ more) t u b other alone opened =
    subst (λ es. IsTrue (is_open_at es t b (length es))) (append_assoc r (g ∷ []) more)
    (is_open_at-others (r ++ g ∷ []) more t u b other (λ k h at. alone (suc k) h at) (is_open_at-other r g t b (λ same. other (sym same ∙ alone 0 g refl)) opened))

module _ (q r : List Event) (e : Event) (more : List Event) (GoesOn Later : ℕ → Type 0) (stands : Stands q r GoesOn) (later : (t : ℕ) → Later t → GoesOn t) (gone : ¬ Later (thread_of e)) (gives : GivesUp q r e more GoesOn stands) where
  in_last : gives.last < length q
  in_last = slice_get_within q gives.last gives.event gives.here

  own_last : IsTrue (passes_at q (is_by (thread_of e)) gives.last)
  own_last = passes_at-is q (is_by (thread_of e)) gives.last gives.event gives.here ∙ eq-eqb (thread_of gives.event) (thread_of e) gives.by

  place_more : ℕ → ℕ
  place_more = placed stands.place (length q) (stands.place gives.last)

  twin_more : ℕ → ℕ
  twin_more = placed stands.twin (length q) gives.twin

  place_more-before : (i : ℕ) → i < length q → place_more i ≡ stands.place i
  unfolding place_more
  place_more-before i before = placed-before stands.place (length q) (stands.place gives.last) i before

  place_more-there : (i : ℕ) → i ≡ length q → place_more i ≡ stands.place gives.last
  unfolding place_more
  place_more-there i there = ap (placed stands.place (length q) (stands.place gives.last)) there ∙ placed-there stands.place (length q) (stands.place gives.last)

  twin_more-before : (i : ℕ) → i < length q → twin_more i ≡ stands.twin i
  unfolding twin_more
  twin_more-before i before = placed-before stands.twin (length q) gives.twin i before

  twin_more-there : (i : ℕ) → i ≡ length q → twin_more i ≡ gives.twin
  unfolding twin_more
  twin_more-there i there = ap (placed stands.twin (length q) gives.twin) there ∙ placed-there stands.twin (length q) gives.twin

  in_run_more : (i : ℕ) → i < length q → stands.place i < length r
  in_run_more i before = place_within q r GoesOn stands i before

  home_more-before : (i : ℕ) → i < length q → owner (r ++ more) (place_more i) ≡ owner r (stands.place i)
  home_more-before i before = ap (owner (r ++ more)) (place_more-before i before) ∙ owner-append r more (stands.place i) (in_run_more i before)

  home_more-there : (i : ℕ) → i ≡ length q → owner (r ++ more) (place_more i) ≡ owner r (stands.place gives.last)
  home_more-there i there = ap (owner (r ++ more)) (place_more-there i there) ∙ owner-append r more (stands.place gives.last) (in_run_more gives.last in_last)

  twins_more : (i : ℕ) (d : Event) → slice_get (q ++ e ∷ []) i ≡ Some d → (g : Event) × (slice_get (r ++ more) (twin_more i) ≡ Some g) × IsTwin d g
  twins_more i d at =
      ⊎_elim
      (λ before. let g = stands.twins i d before.1 in
      (g.0, ap (slice_get (r ++ more)) (twin_more-before i before.0) ∙ (slice_get-append r more (stands.twin i) (slice_get_within r (stands.twin i) g.0 g.1) ∙ g.1), g.2))
      (λ last. (gives.twin_event, ap (slice_get (r ++ more)) (twin_more-there i last.0) ∙ gives.twin_here, subst (λ d. IsTwin d gives.twin_event) last.1 gives.is_twin))
      (last_or_before q e i d at)

  places_more : (i : ℕ) (d : Event) → slice_get (q ++ e ∷ []) i ≡ Some d → (g : Event) × (slice_get (r ++ more) (place_more i) ≡ Some g) × (thread_of g ≡ thread_of d)
  places_more i d at =
      ⊎_elim
      (λ before. let g = stands.places i d before.1 in
      (g.0, ap (slice_get (r ++ more)) (place_more-before i before.0) ∙ (slice_get-append r more (stands.place i) (slice_get_within r (stands.place i) g.0 g.1) ∙ g.1), g.2))
      (λ last. let g = stands.places gives.last gives.event gives.here in
      (g.0, ap (slice_get (r ++ more)) (place_more-there i last.0) ∙ (slice_get-append r more (stands.place gives.last) (slice_get_within r (stands.place gives.last) g.0 g.1) ∙ g.1), g.2 ∙ (gives.by ∙ ap thread_of last.1)))
      (last_or_before q e i d at)

  leaves_more : (i : ℕ) → i < length (q ++ e ∷ []) → IsFrom (r ++ more) (place_more i) (twin_more i)
  leaves_more i within =
      ⊎_elim
      (λ before.
      subst (λ x. IsFrom (r ++ more) x (twin_more i)) (sym (place_more-before i before))
      (subst (λ x. IsFrom (r ++ more) (stands.place i) x) (sym (twin_more-before i before))
      (IsFrom-append r more (stands.place i) (stands.twin i) (stands.leaves i before))))
      (λ above.
      let there : i ≡ length q = omega (arith, above, within, length_push q e) in
      subst (λ x. IsFrom (r ++ more) x (twin_more i)) (sym (place_more-there i there))
      (subst (λ x. IsFrom (r ++ more) (stands.place gives.last) x) (sym (twin_more-there i there)) gives.left))
      (cases_lt i (length q))

  ordered_more : (i j : ℕ) → ConflictsInOrder (q ++ e ∷ []) i j → IsFrom (r ++ more) (place_more i) (place_more j)
  ordered_more i j c =
      let in_j = (conflict_at-within (q ++ e ∷ []) i j c.1).1 in
      ⊎_elim
      (λ before_j.
      let before_i : i < length q = omega (arith, before_j, c.0) in
      subst (λ x. IsFrom (r ++ more) x (place_more j)) (sym (place_more-before i before_i))
      (subst (λ x. IsFrom (r ++ more) (stands.place i) x) (sym (place_more-before j before_j))
      (IsFrom-append r more (stands.place i) (stands.place j) (stands.ordered i j (ConflictsInOrder-before q (e ∷ []) i j before_j c)))))
      (λ above.
      let there : j ≡ length q = omega (arith, above, in_j, length_push q e) in
      let before_i : i < length q = omega (arith, there, c.0) in
      subst (λ x. IsFrom (r ++ more) x (place_more j)) (sym (place_more-before i before_i))
      (subst (λ x. IsFrom (r ++ more) (stands.place i) x) (sym (place_more-there j there))
      (IsFrom-append r more (stands.place i) (stands.place gives.last) (gives.reached i (subst (λ k. IsTrue (conflict_at (q ++ e ∷ []) i k)) there c.1) before_i))))
      (cases_lt j (length q))

  together_last_more : (j : ℕ) → j < length q → newest q e ≡ owner q j → owner r (stands.place gives.last) ≡ owner r (stands.place j)
  together_last_more j within same =
      let less : newest q e < length q = omega (arith, same, owner-le q j, within) in
      let u = newest-unfinished q e less in
      let own = passes_at-shorter q (e ∷ []) (thread_of e) (newest q e) less (newest-own q e) in
      let its = newest-last q e (newest q e) gives.last (unfinished-block q (thread_of e) (newest q e) u own) in_last own_last gives.none_later in
      stands.together gives.last j in_last within (sym its ∙ same)

  together_more : (i j : ℕ) → i < length (q ++ e ∷ []) → j < length (q ++ e ∷ []) → owner (q ++ e ∷ []) i ≡ owner (q ++ e ∷ []) j → owner (r ++ more) (place_more i) ≡ owner (r ++ more) (place_more j)
  together_more i j in_i in_j same =
      ⊎_elim
      (λ before_i. ⊎_elim
      (λ before_j. home_more-before i before_i ∙ (stands.together i j before_i before_j (sym (owner-append q (e ∷ []) i before_i) ∙ (same ∙ owner-append q (e ∷ []) j before_j)) ∙ sym (home_more-before j before_j)))
      (λ above. let there : j ≡ length q = omega (arith, above, in_j, length_push q e) in
      home_more-before i before_i ∙ (sym (together_last_more i before_i (sym (ap (owner (q ++ e ∷ [])) there) ∙ (sym same ∙ owner-append q (e ∷ []) i before_i))) ∙ sym (home_more-there j there)))
      (cases_lt j (length q)))
      (λ above. let there : i ≡ length q = omega (arith, above, in_i, length_push q e) in
      ⊎_elim
      (λ before_j. home_more-there i there ∙ (together_last_more j before_j (sym (ap (owner (q ++ e ∷ [])) there) ∙ (same ∙ owner-append q (e ∷ []) j before_j)) ∙ sym (home_more-before j before_j)))
      (λ also. home_more-there i there ∙ sym (home_more-there j (omega (arith, also, in_j, length_push q e))))
      (cases_lt j (length q)))
      (cases_lt i (length q))

  begun_more : (b : ℕ) (d : Event) → slice_get (q ++ e ∷ []) b ≡ Some d → IsTrue (is_begin d.kind) → slice_get (r ++ more) (place_more b) ≡ Some d
  begun_more b d at begin =
      ⊎_elim
      (λ before. ap (slice_get (r ++ more)) (place_more-before b before.0) ∙ (slice_get-append r more (stands.place b) (in_run_more b before.0) ∙ stands.begun b d before.1 begin))
      (λ last. absurd (both_ways (is_begin e.kind) gives.no_begin (subst (λ g. IsTrue (is_begin g.kind)) (sym last.1) begin)))
      (last_or_before q e b d at)

  -- the block that the last event is in is one that the thread's event before is in
  inside_last_more : (b : ℕ) → IsTrue (is_in_block (q ++ e ∷ []) b (length q)) → (b < length q) × IsTrue (is_in_block q b gives.last)
  inside_last_more b h =
      let parts = is_in_block-parts (q ++ e ∷ []) b (length q) h in
      let by_t : thread_of e ≡ parts.1.0 =
      passes_at-one_thread (q ++ e ∷ []) (thread_of e) parts.1.0 (length q) (passes_at-is (q ++ e ∷ []) (is_by (thread_of e)) (length q) e (slice_get-push q e) ∙ eq-eqb (thread_of e) (thread_of e) refl) parts.1.1 in
      let opened : IsTrue (is_open_at (q ++ e ∷ []) (thread_of e) b (length q)) = subst (λ t. IsTrue (is_open_at (q ++ e ∷ []) t b (length q))) (sym by_t) parts.1.2 in
      let d = passes_at-event (q ++ e ∷ []) (is_begin_by (thread_of e)) b (IsOpenAt-from (q ++ e ∷ []) (thread_of e) b (length q) opened).begun in
      let begin = (and_parts (is_by (thread_of e) d.0) (is_begin d.0.kind) d.2).1 in
      ⊎_elim
      (λ before.
      let was : IsTrue (is_open_at q (thread_of e) b (length q)) = sym (is_open_at-append q (e ∷ []) (thread_of e) b (length q) before.0 (omega arith)) ∙ opened in
      let le : b ≤ gives.last = ⊎_elim (λ less. absurd (both_ways (passes_at q (is_by (thread_of e)) b) (gives.none_later b less) (is_open_at-thread q (thread_of e) b (length q) was))) (λ le. le) (cases_lt gives.last b) in
      (before.0, is_in_block-open q (thread_of e) b (length q) gives.last was le (omega (arith, in_last)) own_last))
      (λ last. absurd (both_ways (is_begin e.kind) gives.no_begin (subst (λ g. IsTrue (is_begin g.kind)) (sym last.1) begin)))
      (last_or_before q e b d.0 d.1)

  inside_more : (b i : ℕ) → i < length (q ++ e ∷ []) → IsTrue (is_in_block (q ++ e ∷ []) b i) → IsTrue (is_in_block (r ++ more) (place_more b) (place_more i))
  inside_more b i within h =
      ⊎_elim
      (λ before.
      let le = (is_in_block-parts (q ++ e ∷ []) b i h).0 in
      longer b i (place_more i) (omega (arith, le, before)) before (sym (is_in_block-append q (e ∷ []) b i le before) ∙ h) (sym (place_more-before i before)))
      (λ above.
      let there : i ≡ length q = omega (arith, above, within, length_push q e) in
      let w = inside_last_more b (subst (λ k. IsTrue (is_in_block (q ++ e ∷ []) b k)) there h) in
      longer b gives.last (place_more i) w.0 in_last w.1 (sym (place_more-there i there)))
      (cases_lt i (length q))
    where
      longer : (b k x : ℕ) → b < length q → k < length q → IsTrue (is_in_block q b k) → stands.place k ≡ x → IsTrue (is_in_block (r ++ more) (place_more b) x)
      longer b k x in_b in_k within_it same =
          let was = stands.inside b k in_k within_it in
          subst (λ y. IsTrue (is_in_block (r ++ more) (place_more b) y)) same
          (subst (λ y. IsTrue (is_in_block (r ++ more) y (stands.place k))) (sym (place_more-before b in_b))
          (is_in_block-append r more (stands.place b) (stands.place k) (is_in_block-parts r (stands.place b) (stands.place k) was).0 (in_run_more k in_k) ∙ was))

  outer_more : (t : ℕ) → Later t → (b : ℕ) → IsUnfinished (q ++ e ∷ []) b → IsTrue (passes_at (q ++ e ∷ []) (is_by t) b) → IsUnfinished (r ++ more) (owner (r ++ more) (place_more b))
  outer_more t goes_on b after own =
      let other : t ≢ thread_of e = λ same. gone (subst Later same goes_on) in
      ⊎_elim
      (λ before.
      let within = before.transaction.within in
      let own_before = passes_at-shorter q (e ∷ []) t b within own in
      let d = event_at q b within in
      let by_t : thread_of d.0 ≡ t = eqb-true (thread_of d.0) t (sym (passes_at-is q (is_by t) b d.0 d.1) ∙ own_before) in
      subst (IsUnfinished (r ++ more)) (sym (home_more-before b within))
      (IsUnfinished-other r more t (thread_of e) (owner r (stands.place b)) other gives.alone (subst (λ s. IsTrue (passes_at r (is_by s) (owner r (stands.place b)))) by_t (home_own q r GoesOn stands b d.0 d.1)) (stands.open_outer t (later t goes_on) b before own_before)))
      (λ last. absurd (other (sym (passes_at-one_thread (q ++ e ∷ []) (thread_of e) t (length q) (passes_at-is (q ++ e ∷ []) (is_by (thread_of e)) (length q) e (slice_get-push q e) ∙ eq-eqb (thread_of e) (thread_of e) refl) (subst (λ x. IsTrue (passes_at (q ++ e ∷ []) (is_by t) x)) last.0 own)))))
      (IsUnfinished-push_cases q e b after)

  inner_more : (t : ℕ) → Later t → (b : ℕ) → IsTrue (is_open_at (q ++ e ∷ []) t b (length (q ++ e ∷ []))) → HasOpen (q ++ e ∷ []) (r ++ more) t b (place_more b)
  inner_more t goes_on b opened =
      let other : t ≢ thread_of e = λ same. gone (subst Later same goes_on) in
      let d = passes_at-event (q ++ e ∷ []) (is_by t) b (is_open_at-thread (q ++ e ∷ []) t b (length (q ++ e ∷ [])) opened) in
      ⊎_elim
      (λ before.
      let was = stands.open_inner t (later t goes_on) b (is_open_at-before q e t b before.0 opened) in
      subst (HasOpen (q ++ e ∷ []) (r ++ more) t b) (sym (place_more-before b before.0))
      (HasOpen-append q r (e ∷ []) more t b (stands.place b) (omega (arith, before.0)) (omega (arith, in_run_more b before.0)) (is_open_at-others r more t (thread_of e) (stands.place b) other gives.alone was.opened) was))
      (λ last. absurd (other (sym (ap thread_of last.1 ∙ eqb-true (thread_of d.0) t d.2))))
      (last_or_before q e b d.0 d.1)

  pub grown_more : (grown : Stands (q ++ e ∷ []) (r ++ more) Later) × ((i : ℕ) → i < length q → grown.place i ≡ stands.place i) × ((i : ℕ) → i ≡ length q → grown.place i ≡ stands.place gives.last)
  grown_more = (
    record {
      place = place_more;
      twin = twin_more;
      twins = twins_more;
      places = places_more;
      leaves = leaves_more;
      ordered = ordered_more;
      together = together_more;
      begun = begun_more;
      inside = inside_more;
      open_outer = outer_more;
      open_inner = inner_more;
    },
    place_more-before,
    place_more-there,
  )
