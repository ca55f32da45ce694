-- The positions of an open block, and the transaction of an appended event.
use Rattle.std.proofs.Common.{◌≡◌, ℕ, ◌<◌, ◌≤◌, Bool, true, List, [], ◌∷◌, ◌++◌, length, refl, sym, ap, ◌∙◌, subst, arith, ⊎_elim}
use Rattle.std.specs.Prelude.{◌↔◌, nat_le, IsTrue, IsFalse}
use Rattle.std.proofs.lemmas.Option.{slice_get_within}
use Rattle.std.proofs.lemmas.Bool.{cases_order, cases_lt, and_parts, and_from, eqb-true, eq-eqb, le-leb, leb-true, both_ways, false_from_ne_true}
use Rattle.velo_events.specs.declared.event.Event.{Event}
use Rattle.velo_events.specs.Event.{thread_of, is_by, is_begin, is_begin_by}
use Rattle.velo_events.specs.Block.{passes_at, is_begin_at, is_open_at, is_in_block, owner}
use Rattle.velo_events.proofs.OnBlocks.{least_below-is, owner-push, owner-le, owner-in_block, owner-first}
use Rattle.velo_events.proofs.OnScans.{passes_at-event, passes_at-is, IsOpenAt-from, IsOpenAt-to, IsOpenAt-less, IsOpenAt-outer}
use Rattle.velo_events.proofs.OnGraphs.{newest}

-- ---- the positions of an open block

-- the thread of the event that begins it
pub is_open_at-thread : (trace : List Event) (t b n : ℕ) → IsTrue (is_open_at trace t b n) → IsTrue (passes_at trace (is_by t) b)
is_open_at-thread trace t b n opened =
    let e = passes_at-event trace (is_begin_by t) b (IsOpenAt-from trace t b n opened).begun in
    passes_at-is trace (is_by t) b e.0 e.1 ∙ (and_parts (is_by t e.0) (is_begin e.0.kind) e.2).0

-- a block begins there
pub is_open_at-begins : (trace : List Event) (t b n : ℕ) → IsTrue (is_open_at trace t b n) → IsTrue (is_begin_at trace b)
is_open_at-begins trace t b n opened =
    let e = passes_at-event trace (is_begin_by t) b (IsOpenAt-from trace t b n opened).begun in
    passes_at-is trace (λ f. is_begin f.kind) b e.0 e.1 ∙ (and_parts (is_by t e.0) (is_begin e.0.kind) e.2).1

-- its begin is in the trace
pub is_open_at-within : (trace : List Event) (t b n : ℕ) → IsTrue (is_open_at trace t b n) → b < length trace
is_open_at-within trace t b n opened = let e = passes_at-event trace (is_by t) b (is_open_at-thread trace t b n opened) in slice_get_within trace b e.0 e.1

-- what passes at a position is there
pub passes_at-within : (trace : List Event) (test : Event → Bool) (i : ℕ) → IsTrue (passes_at trace test i) → i < length trace
passes_at-within trace test i h = let e = passes_at-event trace test i h in slice_get_within trace i e.0 e.1

-- an event is of one thread
pub passes_at-one_thread : (trace : List Event) (t u i : ℕ) → IsTrue (passes_at trace (is_by t) i) → IsTrue (passes_at trace (is_by u) i) → t ≡ u
passes_at-one_thread trace t u i own other =
    let e = passes_at-event trace (is_by t) i own in
    sym (eqb-true (thread_of e.0) t e.2) ∙ eqb-true (thread_of e.0) u (sym (passes_at-is trace (is_by u) i e.0 e.1) ∙ other)

-- each position of the thread from its begin on is in the block, as long as this is open
pub is_in_block-open : (trace : List Event) (t b n i : ℕ) → IsTrue (is_open_at trace t b n) → b ≤ i → i ≤ n → IsTrue (passes_at trace (is_by t) i) → IsTrue (is_in_block trace b i)
unfolding is_in_block
is_in_block-open trace t b n i opened from upto own =
    let e = passes_at-event trace (is_by t) i own in
    let here : is_open_at trace t b i ≡ true = IsOpenAt-to trace t b i (IsOpenAt-less trace t b n i upto (IsOpenAt-from trace t b n opened)) in
    and_from _ _ (le-leb b i from) (passes_at-is trace (λ f. is_open_at trace (thread_of f) b i) i e.0 e.1 ∙ (ap (λ u. is_open_at trace u b i) (eqb-true (thread_of e.0) t e.2) ∙ here))

-- a position in a block comes after its begin, and is of the block's thread, which has the block open there
pub is_in_block-parts : (trace : List Event) (b i : ℕ) → IsTrue (is_in_block trace b i) → (b ≤ i) × ((t : ℕ) × IsTrue (passes_at trace (is_by t) i) × IsTrue (is_open_at trace t b i))
unfolding is_in_block
is_in_block-parts trace b i h =
    let p = and_parts (nat_le b i) (passes_at trace (λ f. is_open_at trace (thread_of f) b i) i) h in
    let e = passes_at-event trace (λ f. is_open_at trace (thread_of f) b i) i p.1 in
    (leb-true b i p.0, (thread_of e.0, passes_at-is trace (is_by (thread_of e.0)) i e.0 e.1 ∙ eq-eqb (thread_of e.0) (thread_of e.0) refl, e.2))

-- all positions of a block are of its thread
pub is_in_block-thread : (trace : List Event) (t b n i : ℕ) → IsTrue (is_open_at trace t b n) → IsTrue (is_in_block trace b i) → IsTrue (passes_at trace (is_by t) i)
is_in_block-thread trace t b n i opened h =
    let w = is_in_block-parts trace b i h in
    subst (λ u. passes_at trace (is_by u) i ≡ true) (passes_at-one_thread trace w.1.0 t b (is_open_at-thread trace w.1.0 b i w.1.2) (is_open_at-thread trace t b n opened)) w.1.1

-- the positions of a block that is open at the end are those of its thread from its begin on
pub open_block-positions : (trace : List Event) (t b i : ℕ) → IsTrue (is_open_at trace t b (length trace)) → IsTrue (is_in_block trace b i) ↔ ((b ≤ i) × IsTrue (passes_at trace (is_by t) i))
open_block-positions trace t b i opened = (
  (λ h. ((is_in_block-parts trace b i h).0, is_in_block-thread trace t b (length trace) i opened h)),
  (λ w. let within = passes_at-within trace (is_by t) i w.1 in is_in_block-open trace t b (length trace) i opened w.0 (omega (arith, within)) w.1),
)

-- ---- the outermost open block

-- the transaction of each position of a thread from the begin of its outermost open block on
pub owner-outermost : (trace : List Event) (t o n i : ℕ) → n ≤ length trace → IsTrue (is_open_at trace t o n) → ((b : ℕ) → b < o → IsFalse (is_open_at trace t b n)) → o ≤ i → i ≤ n → IsTrue (passes_at trace (is_by t) i) → owner trace i ≡ o
owner-outermost trace t o n i within opened first from upto own =
    ⊎_elim (λ e. e) (⊎_elim (λ l. absurd (earlier l)) (λ l. absurd (later l))) (cases_order (owner trace i) o)
  where
    later : o < owner trace i → ⊥
    later l = both_ways (is_in_block trace o i) (owner-first trace i o l) (is_in_block-open trace t o n i opened from upto own)

    earlier : owner trace i < o → ⊥
    earlier l =
        let a = owner trace i in
        let w = is_in_block-parts trace a i (owner-in_block trace i (omega (arith, l, from))) in
        let same = passes_at-one_thread trace w.1.0 t i w.1.1 own in
        let outer = IsOpenAt-less trace t a i o from (IsOpenAt-from trace t a i (subst (λ u. is_open_at trace u a i ≡ true) same w.1.2)) in
        let far = IsOpenAt-to trace t a n (IsOpenAt-outer trace t a o n l (omega (arith, from, upto)) within outer (IsOpenAt-from trace t o n opened)) in
        both_ways (is_open_at trace t a n) (first a l) far

-- between two positions of one transaction its thread is in it
pub owner-between : (trace : List Event) (t i k j : ℕ) → i < j → i ≤ k → k ≤ j → IsTrue (passes_at trace (is_by t) k) → IsTrue (passes_at trace (is_by t) j) → owner trace i ≡ owner trace j → owner trace k ≡ owner trace j
owner-between trace t i k j less from upto own_k own_j same =
    owner-outermost trace t (owner trace j) j k (omega (arith, passes_at-within trace (is_by t) j own_j)) opened first (omega (arith, start)) upto own_k
  where
    start : owner trace j ≤ i
    start = let most = owner-le trace i in omega (arith, most, same)

    opened : IsTrue (is_open_at trace t (owner trace j) j)
    opened =
        let w = is_in_block-parts trace (owner trace j) j (owner-in_block trace j (omega (arith, start, less))) in
        subst (λ u. is_open_at trace u (owner trace j) j ≡ true) (passes_at-one_thread trace w.1.0 t j w.1.1 own_j) w.1.2

    first : (b : ℕ) → b < owner trace j → IsFalse (is_open_at trace t b j)
    first b l = false_from_ne_true _ (λ o. both_ways (is_in_block trace b j) (owner-first trace j b l) (is_in_block-open trace t b j j o (omega (arith, l, start, less)) (omega arith) own_j))

-- ---- the transaction of an appended event

module _ (trace : List Event) (event : Event) where
  -- it begins at the event or before
  pub newest-le : newest trace event ≤ length trace
  newest-le = owner-le (trace ++ event ∷ []) (length trace)

  -- it is the outermost open block of the thread, where one is open
  pub newest-open : newest trace event < length trace → IsTrue (is_open_at trace (thread_of event) (newest trace event) (length trace))
  newest-open l =
      let least = owner-push trace event in
      let found = (least_below-is (length trace) (λ b. is_open_at trace (thread_of event) b (length trace))).passes (omega (arith, l, least)) in
      subst (λ b. is_open_at trace (thread_of event) b (length trace) ≡ true) (sym least) found

  -- no open block of the thread began before it
  pub newest-outermost : (b : ℕ) → b < newest trace event → IsFalse (is_open_at trace (thread_of event) b (length trace))
  newest-outermost b l =
      let least = owner-push trace event in
      (least_below-is (length trace) (λ b. is_open_at trace (thread_of event) b (length trace))).before b (omega (arith, l, least))

  -- the event alone, where the thread has no open block
  pub newest-alone : ((b : ℕ) → IsFalse (is_open_at trace (thread_of event) b (length trace))) → newest trace event ≡ length trace
  newest-alone none =
      ⊎_elim (λ l. absurd (both_ways (is_open_at trace (thread_of event) (newest trace event) (length trace)) (none (newest trace event)) (newest-open l)))
      (λ g. let most = newest-le in omega (arith, g, most)) (cases_lt (newest trace event) (length trace))

  -- and the event alone only there
  pub newest-not_alone : newest trace event ≡ length trace → (b : ℕ) → IsFalse (is_open_at trace (thread_of event) b (length trace))
  newest-not_alone alone b = false_from_ne_true _ (λ opened.
      let within = is_open_at-within trace (thread_of event) b (length trace) opened in
      both_ways (is_open_at trace (thread_of event) b (length trace)) (newest-outermost b (omega (arith, within, alone))) opened)

  -- it is that of each earlier event of the thread in its outermost open block
  pub newest-owner : (i : ℕ) → newest trace event ≤ i → i < length trace → IsTrue (passes_at trace (is_by (thread_of event)) i) → owner trace i ≡ newest trace event
  newest-owner i from within own =
      owner-outermost trace (thread_of event) (newest trace event) (length trace) i (omega arith) (newest-open (omega arith)) newest-outermost from (omega arith) own

  -- so with an open block it is that of the last event of the thread
  pub newest-last : (b i : ℕ) → IsTrue (is_open_at trace (thread_of event) b (length trace)) → i < length trace → IsTrue (passes_at trace (is_by (thread_of event)) i) → ((k : ℕ) → i < k → IsFalse (passes_at trace (is_by (thread_of event)) k)) → newest trace event ≡ owner trace i
  newest-last b i opened within own last = sym (newest-owner i from within own)
    where
      some : newest trace event < length trace
      some = ⊎_elim (λ l. l) (λ g. absurd (both_ways (is_open_at trace (thread_of event) b (length trace)) (newest-not_alone (let most = newest-le in omega (arith, g, most)) b) opened)) (cases_lt (newest trace event) (length trace))

      from : newest trace event ≤ i
      from = ⊎_elim (λ l. absurd (both_ways (passes_at trace (is_by (thread_of event)) (newest trace event)) (last (newest trace event) l) (is_open_at-thread trace (thread_of event) (newest trace event) (length trace) (newest-open some)))) (λ g. g) (cases_lt i (newest trace event))
