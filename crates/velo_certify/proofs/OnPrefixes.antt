-- What is self-serializable in a longer trace is so in its beginning.
use Rattle.std.proofs.Common.{◌≡◌, ℕ, zero, suc, ◌<◌, Bool, true, false, cond, List, [], ◌∷◌, ◌++◌, length, length-append, refl, sym, ap, ◌∙◌, arith, ⊎_elim}
use Rattle.std.specs.Prelude.{◌==◌, ◌&&◌, nat_lt, if◌then◌else◌, count_by, filter, slice_index, IsTrue, AllPairs}
use Rattle.std.proofs.lemmas.Bool.{cases_lt, ltb-true, lt-ltb, le-ltb, lt-leb, both_ways, false_from_ne_true}
use Rattle.std.proofs.lemmas.List.{get_or_default}
use Rattle.std.proofs.lemmas.List.Elements.{filter_passes}
use Rattle.std.proofs.lemmas.List.Kept.{AllPairs-filter}
use Rattle.velo_events.specs.declared.event.Event.{Event}
use Rattle.velo_events.specs.Event.{thread_of}
use Rattle.velo_events.specs.Block.{passes_at, is_begin_at, is_open_at, is_in_block}
use Rattle.velo_events.specs.Graph.{conflict_at}
use Rattle.velo_events.specs.Reordering.{IsReordering, StandTogether, IsSelfSerializable}
use Rattle.velo_events.proofs.OnBlocks.{is_in_block-append}
use Rattle.velo_events.proofs.OnGraphs.{conflict_at-append}
use Rattle.velo_events.proofs.OnReorderings.{conflict_at-within}
use Rattle.velo_events.proofs.OnBlame.{KeepsOrder, IsReordering-by}
use Rattle.velo_events.proofs.OnSerializing.{count_filter}

-- ---- what a filter keeps stands in its order

-- the place in a list of what a filter keeps at a place
after : Bool → ℕ → (ℕ → ℕ) → ℕ
after false k f = suc (f k)
after true zero f = 0
after true (suc k) f = suc (f k)

place : (ℕ → Bool) → List ℕ → ℕ → ℕ
place p [] k = k
place p (x ∷ xs) k = after (p x) k (place p xs)

after-rises : (b : Bool) (f : ℕ → ℕ) → ((k l : ℕ) → k < l → f k < f l) → (k l : ℕ) → k < l → after b k f < after b l f
unfolding after
after-rises false f h k l less = let more = h k l less in omega (arith, more)
after-rises true f h zero zero less = absurd (omega (arith, less))
after-rises true f h zero (suc l) less = omega arith
after-rises true f h (suc k) zero less = absurd (omega (arith, less))
after-rises true f h (suc k) (suc l) less = let more = h k l (omega (arith, less)) in omega (arith, more)

place-rises : (p : ℕ → Bool) (xs : List ℕ) (k l : ℕ) → k < l → place p xs k < place p xs l
unfolding place
place-rises p [] k l less = less
place-rises p (x ∷ xs) k l less = after-rises (p x) (place p xs) (place-rises p xs) k l less

after-is : (b : Bool) (x : ℕ) (xs ys : List ℕ) (f : ℕ → ℕ) → ((k : ℕ) → k < length ys → (f k < length xs) × (slice_index xs (f k) ≡ slice_index ys k)) → (k : ℕ) → k < length (cond b (x ∷ ys) ys) → (after b k f < length (x ∷ xs)) × (slice_index (x ∷ xs) (after b k f) ≡ slice_index (cond b (x ∷ ys) ys) k)
unfolding after
after-is false x xs ys f h k l = let w = h k l in (let inside = w.0 in omega (arith, inside), w.1)
after-is true x xs ys f h zero l = (omega arith, refl)
after-is true x xs ys f h (suc k) l = let w = h k (omega (arith, l)) in (let inside = w.0 in omega (arith, inside), w.1)

place-is : (p : ℕ → Bool) (xs : List ℕ) (k : ℕ) → k < length (filter p xs) → (place p xs k < length xs) × (slice_index xs (place p xs k) ≡ slice_index (filter p xs) k)
unfolding place
place-is p [] k l = absurd (omega (arith, l))
place-is p (x ∷ xs) k l = after-is (p x) x xs (filter p xs) (place p xs) (place-is p xs) k l

StandTogether-filter : (member p : ℕ → Bool) (order : List ℕ) → StandTogether member order → StandTogether member (filter p order)
StandTogether-filter member p order t k l m before behind within first last =
    let at_k = place-is p order k (omega (arith, before, behind, within)) in
    let at_l = place-is p order l (omega (arith, behind, within)) in
    let at_m = place-is p order m within in
    ap member (sym at_l.1)
    ∙ t (place p order k) (place p order l) (place p order m) (place-rises p order k l before) (place-rises p order l m behind) at_m.0
    (ap member at_k.1 ∙ first) (ap member at_m.1 ∙ last)

-- ---- the positions of the beginning of a trace

module _ (trace more : List Event) where
  -- a block of the beginning has the same positions there
  same_block : (b i : ℕ) → i < length trace → is_in_block (trace ++ more) b i ≡ is_in_block trace b i
  unfolding is_in_block
  same_block b i l = ⊎_elim
      (λ later. ap (λ t. t && passes_at (trace ++ more) (λ e. is_open_at (trace ++ more) (thread_of e) b i) i) (lt-leb b i later) ∙ sym (ap (λ t. t && passes_at trace (λ e. is_open_at trace (thread_of e) b i) i) (lt-leb b i later)))
      (λ from. is_in_block-append trace more b i from l)
      (cases_lt i b)

  KeepsOrder-before : (x y : ℕ) → KeepsOrder (trace ++ more) x y → KeepsOrder trace x y
  KeepsOrder-before x y h moved = false_from_ne_true _ (λ c.
      let inside = conflict_at-within trace y x c in
      both_ways (conflict_at (trace ++ more) y x) (h moved) (conflict_at-append trace more y x inside.0 inside.1 ∙ c))

  -- the reordering without the later positions
  pub IsReordering-early : (order : List ℕ) → IsReordering (trace ++ more) order → IsReordering trace (filter (λ i. nat_lt i (length trace)) order)
  IsReordering-early order r = IsReordering-by trace (filter (λ i. nat_lt i (length trace)) order) once
      (λ i j d l within. KeepsOrder-before _ _ (AllPairs-filter (KeepsOrder (trace ++ more)) (λ i. nat_lt i (length trace)) order kept i j d l within))
    where
      kept : AllPairs (KeepsOrder (trace ++ more)) order
      kept i j d l within moved =
          let at_i = get_or_default order i d 0 (omega (arith, l, within)) in
          let at_j = get_or_default order j d 0 within in
          rw (at_i, at_j) (r.keeps_order i j l within (omega (arith, moved, at_i, at_j)))

      once : (i : ℕ) → count_by (λ k. k == i) (filter (λ i. nat_lt i (length trace)) order) ≡ (if nat_lt i (length trace) then 1 else 0)
      once i =
          count_filter (λ i. nat_lt i (length trace)) i order
          ∙ ⊎_elim
          (λ l. rw (lt-ltb i (length trace) l) (r.each_once i ∙ ap (λ b. cond {A = ℕ} b 1 0) (lt-ltb i (length (trace ++ more)) (let long = length-append trace more in omega (arith, l, long)))))
          (λ g. rw (le-ltb i (length trace) g) refl)
          (cases_lt i (length trace))

-- a block that begins in a trace and is self-serializable in a longer one is so in the trace
pub IsSelfSerializable-early : (trace more : List Event) (b : ℕ) → IsTrue (is_begin_at trace b) → IsSelfSerializable (trace ++ more) b → IsSelfSerializable trace b
IsSelfSerializable-early trace more b begun s = record {
  begun = begun;
  order = filter (λ i. nat_lt i (length trace)) s.order;
  reorders = IsReordering-early trace more s.order s.reorders;
  together = λ k l m before behind within first last.
      sym (same_block trace more b _ (early l (omega (arith, behind, within))))
      ∙ StandTogether-filter (is_in_block (trace ++ more) b) (λ i. nat_lt i (length trace)) s.order s.together k l m before behind within
      (same_block trace more b _ (early k (omega (arith, before, behind, within))) ∙ first)
      (same_block trace more b _ (early m within) ∙ last);
}
  where
    early : (k : ℕ) → k < length (filter (λ i. nat_lt i (length trace)) s.order) → slice_index (filter (λ i. nat_lt i (length trace)) s.order) k < length trace
    early k l = ltb-true _ (length trace) (filter_passes (λ i. nat_lt i (length trace)) s.order k 0 l)
