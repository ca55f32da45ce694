-- Which transactions are finished and unfinished, and what an appended event changes of that.
use Rattle.std.proofs.Common.{◌≡◌, ◌≢◌, ℕ, ◌+◌, ◌<◌, ◌≤◌, true, false, List, [], ◌∷◌, ◌++◌, length, Some, refl, sym, ap, ◌∙◌, subst, arith, length-append, ⊎_elim, inl, inr}
use Rattle.std.specs.Prelude.{◌⊎◌, ◌↔◌, ◌==◌, slice_get, slice_index, IsTrue, IsFalse, Contains}
use Rattle.std.proofs.lemmas.List.{length_push}
use Rattle.std.specs.List.Sorted.{IsStrictlyIncreasing}
use Rattle.std.proofs.lemmas.List.Elements.{Contains-get_or}
use Rattle.std.proofs.lemmas.List.Kept.{IsStrictlyIncreasing-filter}
use Rattle.std.proofs.lemmas.Bool.{cases_Bool, cases_order, cases_lt, and_parts, and_from, and_left, eqb-true, eq-eqb, ne_eqb, both_ways, false_from_ne_true}
use Rattle.velo_events.specs.declared.config.Bounds.{Bounds}
use Rattle.velo_events.specs.declared.event.Event.{Event}
use Rattle.velo_events.specs.Event.{thread_of, is_by, is_begin, is_begin_by}
use Rattle.velo_events.specs.Heap.{depth_in}
use Rattle.velo_events.specs.WellFormed.{IsWellFormed}
use Rattle.velo_events.specs.Block.{positions, passes_at, is_open_at, is_in_block, is_open, owner, open_blocks, IsTransaction, IsUnfinished, IsFinished}
use Rattle.velo_events.proofs.OnPositions.{Contains-filter, Contains-positions, positions-increase}
use Rattle.velo_events.proofs.OnTraces.{slice_get-append, slice_get-push, passes_at-push}
use Rattle.velo_events.proofs.OnBlocks.{is_open_at-append, owner-append, owner-le, owner-in_block, owner-first}
use Rattle.velo_events.proofs.OnScans.{event_at, passes_at-event, passes_at-is, IsOpenAt-from, IsOpenAt-to, IsOpenAt-less, IsOpenAt-more, IsOpenAt-outer, IsOpenAt-positive, IsOpenAt-begin, owner-thread, begins-other, ends-other, owner-owner}
use Rattle.velo_events.proofs.OnDepths.{length-open_blocks}
use Rattle.velo_events.proofs.OnGraphs.{newest}
use Rattle.velo_events.proofs.OnOwners.{owner-outermost, is_open_at-thread, is_open_at-within, is_in_block-open, is_in_block-parts, newest-open, newest-outermost, newest-not_alone}

-- position i is in no block
abbrev pub IsOutside : List Event → ℕ → Type 0
IsOutside trace i = (b : ℕ) → IsFalse (is_in_block trace b i)

-- ---- transactions of a longer trace

-- a transaction stays one
pub IsTransaction-append : (trace more : List Event) (a : ℕ) → IsTransaction trace a → IsTransaction (trace ++ more) a
IsTransaction-append trace more a t = record {
  within = omega (arith, t.within, length-append trace more);
  first = owner-append trace more a t.within ∙ t.first;
}

-- and was one, if it had begun
pub IsTransaction-before : (trace more : List Event) (a : ℕ) → a < length trace → IsTransaction (trace ++ more) a → IsTransaction trace a
IsTransaction-before trace more a l t = record { within = l; first = sym (owner-append trace more a l) ∙ t.first }

-- the transaction of a position is one
pub IsTransaction-owner : (trace : List Event) (i : ℕ) → i < length trace → IsTransaction trace (owner trace i)
IsTransaction-owner trace i l = record { within = (let most = owner-le trace i in omega (arith, l, most)); first = owner-owner trace i l }

-- so is that of an appended event
pub IsTransaction-newest : (trace : List Event) (event : Event) → IsTransaction (trace ++ event ∷ []) (newest trace event)
IsTransaction-newest trace event = IsTransaction-owner (trace ++ event ∷ []) (length trace) (omega (arith, length_push trace event))

-- ---- finished and unfinished

-- whether a block is open at the end, by the thread of its begin
pub is_open-at : (trace : List Event) (a : ℕ) (e : Event) → slice_get trace a ≡ Some e → is_open trace a ≡ is_open_at trace (thread_of e) a (length trace)
unfolding is_open
is_open-at trace a e here = passes_at-is trace (λ f. is_open_at trace (thread_of f) a (length trace)) a e here

-- a transaction is unfinished or finished
pub cases_unfinished : (trace : List Event) (a : ℕ) → IsTransaction trace a → IsUnfinished trace a ⊎ IsFinished trace a
cases_unfinished trace a t = ⊎_elim (λ o. inl (record { transaction = t; open_block = o })) (λ c. inr (record { transaction = t; not_open = c })) (cases_Bool (is_open trace a))

-- and not both
pub unfinished-not_finished : (trace : List Event) (a : ℕ) → IsUnfinished trace a → IsFinished trace a → ⊥
unfinished-not_finished trace a u f = both_ways (is_open trace a) f.not_open u.open_block

-- a block that is open in a longer trace was open
pub is_open-before : (trace more : List Event) (a : ℕ) → a < length trace → IsTrue (is_open (trace ++ more) a) → IsTrue (is_open trace a)
is_open-before trace more a l opened =
    let e = event_at trace a l in
    let t = thread_of e.0 in
    let far : is_open_at (trace ++ more) t a (length (trace ++ more)) ≡ true = sym (is_open-at (trace ++ more) a e.0 (slice_get-append trace more a l ∙ e.1)) ∙ opened in
    let near = IsOpenAt-to (trace ++ more) t a (length trace) (IsOpenAt-less (trace ++ more) t a (length (trace ++ more)) (length trace) (omega (arith, length-append trace more)) (IsOpenAt-from (trace ++ more) t a (length (trace ++ more)) far)) in
    is_open-at trace a e.0 e.1 ∙ (sym (is_open_at-append trace more t a (length trace) l (omega arith)) ∙ near)

-- finished stays finished
pub IsFinished-append : (trace more : List Event) (a : ℕ) → IsFinished trace a → IsFinished (trace ++ more) a
IsFinished-append trace more a f = record {
  transaction = IsTransaction-append trace more a f.transaction;
  not_open = false_from_ne_true _ (λ opened. both_ways (is_open trace a) f.not_open (is_open-before trace more a f.transaction.within opened));
}

-- what is unfinished in a longer trace, and was there, was unfinished
pub IsUnfinished-before : (trace more : List Event) (a : ℕ) → a < length trace → IsUnfinished (trace ++ more) a → IsUnfinished trace a
IsUnfinished-before trace more a l u =
    record { transaction = IsTransaction-before trace more a l u.transaction; open_block = is_open-before trace more a l u.open_block }

-- the block of an unfinished transaction is open at the end
pub unfinished-block : (trace : List Event) (t a : ℕ) → IsUnfinished trace a → IsTrue (passes_at trace (is_by t) a) → IsTrue (is_open_at trace t a (length trace))
unfinished-block trace t a u own =
    let e = passes_at-event trace (is_by t) a own in
    subst (λ v. is_open_at trace v a (length trace) ≡ true) (eqb-true (thread_of e.0) t e.2) (sym (is_open-at trace a e.0 e.1) ∙ u.open_block)

-- no block of the thread that is open at the end began before an unfinished transaction
pub unfinished-outermost : (trace : List Event) (t a b : ℕ) → IsUnfinished trace a → IsTrue (passes_at trace (is_by t) a) → b < a → IsFalse (is_open_at trace t b (length trace))
unfinished-outermost trace t a b u own l = false_from_ne_true _ (λ opened.
    let within = u.transaction.within in
    let first = u.transaction.first in
    both_ways (is_in_block trace b a) (owner-first trace a b (omega (arith, l, first))) (is_in_block-open trace t b (length trace) a opened (omega arith) (omega (arith, within)) own))

-- a thread has at most one unfinished transaction
pub unfinished-one : (trace : List Event) (t a b : ℕ) → IsUnfinished trace a → IsUnfinished trace b → IsTrue (passes_at trace (is_by t) a) → IsTrue (passes_at trace (is_by t) b) → a ≡ b
unfinished-one trace t a b u v own_a own_b = ⊎_elim (λ e. e)
    (⊎_elim (λ l. absurd (both_ways (is_open_at trace t a (length trace)) (unfinished-outermost trace t b a v own_b l) (unfinished-block trace t a u own_a)))
    (λ l. absurd (both_ways (is_open_at trace t b (length trace)) (unfinished-outermost trace t a b u own_a l) (unfinished-block trace t b v own_b))))
    (cases_order a b)

-- an outermost open block is an unfinished transaction
pub IsUnfinished-by : (trace : List Event) (t a : ℕ) → IsTrue (is_open_at trace t a (length trace)) → ((b : ℕ) → b < a → IsFalse (is_open_at trace t b (length trace))) → IsUnfinished trace a
IsUnfinished-by trace t a opened first =
    let within = is_open_at-within trace t a (length trace) opened in
    let own = is_open_at-thread trace t a (length trace) opened in
    let e = passes_at-event trace (is_by t) a own in
    record {
      transaction = record { within = within; first = owner-outermost trace t a (length trace) a (omega arith) opened first (omega arith) (omega arith) own };
      open_block = is_open-at trace a e.0 e.1 ∙ (ap (λ v. is_open_at trace v a (length trace)) (eqb-true (thread_of e.0) t e.2) ∙ opened);
    }

module _ (trace : List Event) (event : Event) where
  -- an appended event that is in an earlier transaction is in one that was unfinished
  pub newest-unfinished : newest trace event < length trace → IsUnfinished trace (newest trace event)
  newest-unfinished l = IsUnfinished-by trace (thread_of event) (newest trace event) (newest-open trace event l) (newest-outermost trace event)

  -- and in none that was finished
  pub newest-not_finished : (a : ℕ) → IsFinished trace a → newest trace event ≢ a
  newest-not_finished a f at =
      unfinished-not_finished trace a (subst (IsUnfinished trace) at (newest-unfinished (let within = f.transaction.within in omega (arith, at, within)))) f

  -- it is in the unfinished transaction of its thread, if there is one
  pub newest-of_unfinished : (a : ℕ) → IsUnfinished trace a → IsTrue (passes_at trace (is_by (thread_of event)) a) → newest trace event ≡ a
  newest-of_unfinished a u own = ⊎_elim (λ e. e)
      (⊎_elim
      (λ l. let within = u.transaction.within in
      absurd (both_ways (is_open_at trace (thread_of event) (newest trace event) (length trace)) (unfinished-outermost trace (thread_of event) a (newest trace event) u own l) (newest-open trace event (omega (arith, l, within)))))
      (λ l. absurd (both_ways (is_open_at trace (thread_of event) a (length trace)) (newest-outermost trace event a l) (unfinished-block trace (thread_of event) a u own))))
      (cases_order (newest trace event) a)

  -- a block of another thread stays open
  pub is_open_at-other : (t a : ℕ) → (thread_of event ≡ t → ⊥) → IsTrue (is_open_at trace t a (length trace)) → IsTrue (is_open_at (trace ++ event ∷ []) t a (length (trace ++ event ∷ [])))
  is_open_at-other t a other opened =
      let long = length_push trace event in
      let within = is_open_at-within trace t a (length trace) opened in
      let here : slice_get (trace ++ event ∷ []) (length trace) ≡ Some event = slice_get-push trace event in
      let far = IsOpenAt-from (trace ++ event ∷ []) t a (length trace) (is_open_at-append trace (event ∷ []) t a (length trace) within (omega arith) ∙ opened) in
      let not_by : IsFalse (is_by t event) = ne_eqb (thread_of event) t other in
      let same_begins = begins-other (trace ++ event ∷ []) t (length trace) event here (and_left _ _ not_by) in
      let same_ends = ends-other (trace ++ event ∷ []) t (length trace) event here (and_left _ _ not_by) in
      let positive = IsOpenAt-positive (trace ++ event ∷ []) t a (length trace) far within (omega (arith, long)) in
      subst (λ n. is_open_at (trace ++ event ∷ []) t a n ≡ true) (sym long)
      (IsOpenAt-to (trace ++ event ∷ []) t a (length trace + 1) (IsOpenAt-more (trace ++ event ∷ []) t a (length trace) far (λ same. omega (arith, same, same_begins, same_ends, positive))))

  -- an unfinished transaction that the appended event is not in stays unfinished
  pub IsUnfinished-push : (a : ℕ) → IsUnfinished trace a → newest trace event ≢ a → IsUnfinished (trace ++ event ∷ []) a
  IsUnfinished-push a u differ =
      let f = event_at trace a u.transaction.within in
      let own : passes_at trace (is_by (thread_of f.0)) a ≡ true = passes_at-is trace (is_by (thread_of f.0)) a f.0 f.1 ∙ eq-eqb (thread_of f.0) (thread_of f.0) refl in
      let other : (thread_of event ≡ thread_of f.0 → ⊥) = λ e. differ (newest-of_unfinished a u (subst (λ t. passes_at trace (is_by t) a ≡ true) (sym e) own)) in
      record {
        transaction = IsTransaction-append trace (event ∷ []) a u.transaction;
        open_block = is_open-at (trace ++ event ∷ []) a f.0 (slice_get-append trace (event ∷ []) a u.transaction.within ∙ f.1) ∙ is_open_at-other (thread_of f.0) a other (unfinished-block trace (thread_of f.0) a u own);
      }

  -- what is unfinished was so before, or is the appended event, a begin outside blocks
  pub IsUnfinished-push_cases : (a : ℕ) → IsUnfinished (trace ++ event ∷ []) a → IsUnfinished trace a ⊎ ((a ≡ length trace) × (newest trace event ≡ length trace) × IsTrue (is_begin event.kind))
  IsUnfinished-push_cases a u = ⊎_elim (λ l. inl (IsUnfinished-before trace (event ∷ []) a l u)) (λ g. inr (new g)) (cases_lt a (length trace))
    where
      new : length trace ≤ a → (a ≡ length trace) × (newest trace event ≡ length trace) × IsTrue (is_begin event.kind)
      new g =
          let within = u.transaction.within in
          let at : a ≡ length trace = omega (arith, g, within, length_push trace event) in
          let here : slice_get (trace ++ event ∷ []) a ≡ Some event = ap (slice_get (trace ++ event ∷ [])) at ∙ slice_get-push trace event in
          let opened = sym (is_open-at (trace ++ event ∷ []) a event here) ∙ u.open_block in
          let begun = (IsOpenAt-from (trace ++ event ∷ []) (thread_of event) a (length (trace ++ event ∷ [])) opened).begun in
          (at, ap (owner (trace ++ event ∷ [])) (sym at) ∙ (u.transaction.first ∙ at), (and_parts (is_by (thread_of event) event) (is_begin event.kind) (sym (passes_at-is (trace ++ event ∷ []) (is_begin_by (thread_of event)) a event here) ∙ begun)).1)

  -- a block that is open after the event, and began before it, was open before it
  pub is_open_at-before : (t b : ℕ) → b < length trace → IsTrue (is_open_at (trace ++ event ∷ []) t b (length (trace ++ event ∷ []))) → IsTrue (is_open_at trace t b (length trace))
  is_open_at-before t b l opened =
      sym (is_open_at-append trace (event ∷ []) t b (length trace) l (omega arith))
      ∙ IsOpenAt-to (trace ++ event ∷ []) t b (length trace) (IsOpenAt-less (trace ++ event ∷ []) t b (length (trace ++ event ∷ [])) (length trace) (omega (arith, length_push trace event)) (IsOpenAt-from (trace ++ event ∷ []) t b (length (trace ++ event ∷ [])) opened))

  -- an outermost begin makes an unfinished transaction
  pub newest-begun : newest trace event ≡ length trace → IsTrue (is_begin event.kind) → IsUnfinished (trace ++ event ∷ []) (length trace)
  newest-begun alone begun =
      let t = thread_of event in
      let by_it : is_begin_by t event ≡ true = and_from (thread_of event == t) (is_begin event.kind) (eq-eqb (thread_of event) t refl) begun in
      let opened : is_open_at (trace ++ event ∷ []) t (length trace) (length trace + 1) ≡ true = IsOpenAt-to (trace ++ event ∷ []) t (length trace) (length trace + 1) (IsOpenAt-begin (trace ++ event ∷ []) t (length trace) event (slice_get-push trace event) by_it) in
      IsUnfinished-by (trace ++ event ∷ []) t (length trace)
      (subst (λ n. is_open_at (trace ++ event ∷ []) t (length trace) n ≡ true) (sym (length_push trace event)) opened)
      (λ b l. false_from_ne_true _ (λ before. both_ways (is_open_at trace t b (length trace)) (newest-not_alone trace event alone b) (is_open_at-before t b l before)))

  -- an appended event that begins its transaction, and no block, is outside blocks
  pub newest-outside : newest trace event ≡ length trace → IsFalse (is_begin event.kind) → IsOutside (trace ++ event ∷ []) (length trace)
  newest-outside alone no_begin b = false_from_ne_true _ (λ h. inside (is_in_block-parts (trace ++ event ∷ []) b (length trace) h))
    where
      inside : (b ≤ length trace) × ((t : ℕ) × IsTrue (passes_at (trace ++ event ∷ []) (is_by t) (length trace)) × IsTrue (is_open_at (trace ++ event ∷ []) t b (length trace))) → ⊥
      inside w =
          let t = w.1.0 in
          let same : thread_of event ≡ t = eqb-true (thread_of event) t (sym (passes_at-push trace event (is_by t)) ∙ w.1.1) in
          ⊎_elim
          (λ l. both_ways (is_open_at trace t b (length trace)) (subst (λ u. is_open_at trace u b (length trace) ≡ false) same (newest-not_alone trace event alone b)) (sym (is_open_at-append trace (event ∷ []) t b (length trace) l (omega arith)) ∙ w.1.2))
          (λ g. let at : b ≡ length trace = omega (arith, g, w.0) in
          let begun = subst (λ k. passes_at (trace ++ event ∷ []) (is_begin_by t) k ≡ true) at (IsOpenAt-from (trace ++ event ∷ []) t b (length trace) w.1.2).begun in
          both_ways (is_begin event.kind) no_begin (and_parts (is_by t event) (is_begin event.kind) (sym (passes_at-push trace event (is_begin_by t)) ∙ begun)).1)
          (cases_lt b (length trace))

  -- the transaction of an appended event is of its thread
  pub newest-own : IsTrue (passes_at (trace ++ event ∷ []) (is_by (thread_of event)) (newest trace event))
  newest-own =
      let f = event_at (trace ++ event ∷ []) (newest trace event) (IsTransaction-newest trace event).within in
      passes_at-is (trace ++ event ∷ []) (is_by (thread_of event)) (newest trace event) f.0 f.1
      ∙ eq-eqb (thread_of f.0) (thread_of event) (owner-thread (trace ++ event ∷ []) (length trace) event f.0 (slice_get-push trace event) f.1)

  -- it is finished where no block of the thread is open after the event
  pub newest-finished : ((b : ℕ) → IsFalse (is_open_at (trace ++ event ∷ []) (thread_of event) b (length (trace ++ event ∷ [])))) → IsFinished (trace ++ event ∷ []) (newest trace event)
  newest-finished none = ⊎_elim
      (λ u. absurd (both_ways _ (none (newest trace event)) (unfinished-block (trace ++ event ∷ []) (thread_of event) (newest trace event) u newest-own)))
      (λ f. f) (cases_unfinished (trace ++ event ∷ []) (newest trace event) (IsTransaction-newest trace event))

  -- and unfinished where one is
  pub newest-still_unfinished : (b : ℕ) → newest trace event < length trace → IsTrue (is_open_at (trace ++ event ∷ []) (thread_of event) b (length (trace ++ event ∷ []))) → IsUnfinished (trace ++ event ∷ []) (newest trace event)
  newest-still_unfinished b earlier opened = IsUnfinished-by (trace ++ event ∷ []) (thread_of event) (newest trace event) still first
    where
      first : (k : ℕ) → k < (newest trace event) → IsFalse (is_open_at (trace ++ event ∷ []) (thread_of event) k (length (trace ++ event ∷ [])))
      first k l = false_from_ne_true _ (λ o. both_ways (is_open_at trace (thread_of event) k (length trace)) (newest-outermost trace event k l) (is_open_at-before (thread_of event) k (omega (arith, l, earlier)) o))

      outer : (newest trace event) < b → IsTrue (is_open_at (trace ++ event ∷ []) (thread_of event) (newest trace event) (length (trace ++ event ∷ [])))
      outer l =
          let within = is_open_at-within (trace ++ event ∷ []) (thread_of event) b (length (trace ++ event ∷ [])) opened in
          let was = IsOpenAt-from (trace ++ event ∷ []) (thread_of event) (newest trace event) (length trace) (is_open_at-append trace (event ∷ []) (thread_of event) (newest trace event) (length trace) earlier (omega arith) ∙ newest-open trace event earlier) in
          IsOpenAt-to (trace ++ event ∷ []) (thread_of event) (newest trace event) (length (trace ++ event ∷ []))
          (IsOpenAt-outer (trace ++ event ∷ []) (thread_of event) (newest trace event) b (length (trace ++ event ∷ [])) l (omega (arith, within)) (omega arith)
          (IsOpenAt-less (trace ++ event ∷ []) (thread_of event) (newest trace event) (length trace) b (omega (arith, within, length_push trace event)) was)
          (IsOpenAt-from (trace ++ event ∷ []) (thread_of event) b (length (trace ++ event ∷ [])) opened))

      still : IsTrue (is_open_at (trace ++ event ∷ []) (thread_of event) (newest trace event) (length (trace ++ event ∷ [])))
      still = ⊎_elim (λ at. subst (λ k. is_open_at (trace ++ event ∷ []) (thread_of event) k (length (trace ++ event ∷ [])) ≡ true) (sym at) opened)
          (⊎_elim outer (λ l. absurd (both_ways _ (first b l) opened))) (cases_order (newest trace event) b)

-- a position outside blocks is a finished transaction
pub IsOutside-finished : (trace : List Event) (a : ℕ) → a < length trace → IsOutside trace a → IsFinished trace a
IsOutside-finished trace a l outside = record {
  transaction = record {
    within = l;
    first = ⊎_elim (λ m. absurd (both_ways (is_in_block trace (owner trace a) a) (outside (owner trace a)) (owner-in_block trace a m))) (λ g. let most = owner-le trace a in omega (arith, g, most)) (cases_lt (owner trace a) a);
  };
  not_open = false_from_ne_true _ (λ opened.
      let e = event_at trace a l in
      let t = thread_of e.0 in
      let own : passes_at trace (is_by t) a ≡ true = passes_at-is trace (is_by t) a e.0 e.1 ∙ eq-eqb (thread_of e.0) t refl in
      both_ways (is_in_block trace a a) (outside a) (is_in_block-open trace t a (length trace) a (sym (is_open-at trace a e.0 e.1) ∙ opened) (omega arith) (omega arith) own));
}

-- ---- the list of the open blocks, and the depth

-- the list of open blocks has those that are open at the end
pub Contains-open_blocks : (trace : List Event) (t b : ℕ) → Contains (open_blocks trace t) b ↔ IsTrue (is_open_at trace t b (length trace))
unfolding open_blocks
Contains-open_blocks trace t b = (
  (λ w. ((Contains-filter (λ k. is_open_at trace t k (length trace)) (positions trace) b).0 w).1),
  (λ h. (Contains-filter (λ k. is_open_at trace t k (length trace)) (positions trace) b).1 (Contains-positions trace b (is_open_at-within trace t b (length trace) h), h)),
)

-- outermost first
pub open_blocks-increase : (trace : List Event) (t : ℕ) → IsStrictlyIncreasing (open_blocks trace t)
unfolding open_blocks
open_blocks-increase trace t = IsStrictlyIncreasing-filter (λ k. is_open_at trace t k (length trace)) (positions trace) (positions-increase trace)

-- at depth 0 no block of the thread is open
pub depth_in-none : (bounds : Bounds) (trace : List Event) (t : ℕ) → IsWellFormed bounds trace → depth_in trace t ≡ 0 → (b : ℕ) → IsFalse (is_open_at trace t b (length trace))
depth_in-none bounds trace t well none b = false_from_ne_true _ (λ opened.
    let w = (Contains-open_blocks trace t b).1 opened in
    let count = length-open_blocks bounds trace t well in
    absurd (omega (arith, w.1, count, none)))

-- at another depth some block is
pub depth_in-some : (bounds : Bounds) (trace : List Event) (t : ℕ) → IsWellFormed bounds trace → 0 < depth_in trace t → (b : ℕ) × IsTrue (is_open_at trace t b (length trace))
depth_in-some bounds trace t well some =
    let count = length-open_blocks bounds trace t well in
    let first = slice_index (open_blocks trace t) 0 in
    (first, (Contains-open_blocks trace t first).0 (Contains-get_or (open_blocks trace t) 0 0 (omega (arith, count, some))))
