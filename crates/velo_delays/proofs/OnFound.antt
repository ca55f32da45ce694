-- What is found one after another.
use Rattle.std.proofs.Common.{◌≡◌, ℕ, zero, suc, ◌<◌, ◌≤◌, true, List, [], ◌∷◌, ◌++◌, length, map, take, Option, Some, None, refl, sym, ap, ◌∙◌, subst, append_assoc, arith, ⊎_elim}
use Rattle.std.specs.Prelude.{Bool, All, Contains, IfSome, IsFalse, IsTrue, OnOk, Result, Ok, Err, slice_get, slice_index}
use Rattle.std.proofs.lemmas.Bool.{eq-eqb, or_left, or_right}
use Rattle.std.proofs.lemmas.List.{append-nil, length-append, take-append-le, take_all}
use Rattle.std.proofs.lemmas.List.Elements.{All-head, All-weaker, All-contains_itself}
use Rattle.std.proofs.lemmas.Option.{none-some, same_Some, slice_get_within}
use Rattle.velo_events.specs.declared.config.Bounds.{Bounds}
use Rattle.velo_events.specs.declared.event.Event.{Event}
use Rattle.velo_traces.specs.declared.block.Block.{Block}
use Rattle.velo_filter.specs.Left.{Omitted, is_listed, place_of, places_of, rest_of, with_labels}
use Rattle.velo_audit.specs.Audit.{AreWitnessed}
use Rattle.velo_audit.specs.Rounds.{IsRound, Rounds}
use Rattle.velo_audit.specs.Tells.{numbers_of}
use Rattle.velo_audit.specs.Witness.{HasWitness}
use Rattle.velo_audit.specs.declared.told.Told.{Told}
use Rattle.velo_predict.specs.declared.difference.Difference.{Difference}
use Rattle.velo_predict.specs.Differences.{AreDifferences}
use Rattle.velo_delays.specs.declared.judged.PredictedCycle.{PredictedCycle}
use Rattle.velo_delays.specs.Found.{AreFoundIn, AreFoundInTurn, GoesOn, HasNew, IsFound, IsFoundAfter, TakesIn, labels_blamed, labels_of, left_out_behind}

-- ---- lists in which each thing is such after those before it

-- with one more that is such after them
pub each-push : {X : Type 0} (P : List X → X → Type 0) (xs : List X) (y : X) → ((i : ℕ) (x : X) → slice_get xs i ≡ Some x → P (take i xs) x) → P xs y → (i : ℕ) (x : X) → slice_get (xs ++ y ∷ []) i ≡ Some x → P (take i (xs ++ y ∷ [])) x
each-push P [] y each last zero x is = subst (P []) (same_Some y x is) last
each-push P [] y each last (suc i) x is = absurd (none-some x is)
each-push P (z ∷ zs) y each last zero x is = each 0 x is
each-push P (z ∷ zs) y each last (suc i) x is = each-push (λ ws. P (z ∷ ws)) zs y (λ j w its. each (suc j) w its) last i x is

pub on_ok : {A E : Type 0} {P Q : Type 0} (r : Result A E) → (P → Q) → OnOk r P → OnOk r Q
on_ok (Ok x) f h = f h
on_ok (Err e) f h = tt

-- ---- labels that are left out

pub listed-first : (n : ℕ) (rest : List ℕ) → IsTrue (is_listed (n ∷ rest) n)
unfolding is_listed
listed-first n rest = or_left _ _ (eq-eqb n n refl)

pub listed-later : (m : ℕ) (rest : List ℕ) (n : ℕ) → IsTrue (is_listed rest n) → IsTrue (is_listed (m ∷ rest) n)
unfolding is_listed
listed-later m rest n there = or_right _ _ there

label-listed : (blocks : List Block) (i : ℕ) (block : Block) → slice_get blocks i ≡ Some block → IsTrue (is_listed (labels_of blocks) block.label.0)
label-listed [] i block there = absurd (none-some block there)
label-listed (b ∷ rest) zero block there = subst (λ (x : Block). IsTrue (is_listed (labels_of (b ∷ rest)) x.label.0)) (same_Some b block there) (listed-first b.label.0 (labels_of rest))
label-listed (b ∷ rest) (suc i) block there = listed-later b.label.0 (labels_of rest) block.label.0 (label-listed rest i block there)

-- a block has a label that is not left out
pub has_new-label : (test : ℕ → Bool) (blocks : List Block) (i : ℕ) (block : Block) → slice_get blocks i ≡ Some block → IsFalse (test block.label.0) → HasNew test (labels_of blocks)
has_new-label test blocks i block there new = record { number = block.label.0; listed = label-listed blocks i block there; new = new }

pub left_out_behind-push : (left : Omitted) (founds : List PredictedCycle) (found : PredictedCycle) → left_out_behind left (founds ++ found ∷ []) ≡ with_labels (left_out_behind left founds) (labels_blamed found)
unfolding left_out_behind
left_out_behind-push left [] found = refl
left_out_behind-push left (f ∷ rest) found = left_out_behind-push (with_labels left (labels_blamed f)) rest found

-- ---- what is found one after another

-- the places of what is left
pub placed : (omitted : Omitted) (log : List Event) (places : List ℕ) → places ≡ places_of omitted log → slice_index places ≡ place_of omitted log
unfolding place_of
placed omitted log places is = ap slice_index is

module _ (bounds : Bounds) (log : List Event) (place : ℕ → ℕ) where
  in_turn-push : (left : Omitted) (founds : List PredictedCycle) (found : PredictedCycle) → AreFoundInTurn bounds log place left founds → IsFound bounds log place found → HasNew (left_out_behind left founds).labels (labels_blamed found)
      → AreFoundInTurn bounds log place left (founds ++ found ∷ [])
  unfolding AreFoundInTurn left_out_behind
  in_turn-push left [] found are is new = ((is, new), tt)
  in_turn-push left (f ∷ rest) found are is new = (are.0, in_turn-push (with_labels left (labels_blamed f)) rest found are.1 is new)

  pub GoesOn-none : (left : Omitted) (founds : List PredictedCycle) → GoesOn bounds log place left left founds founds
  unfolding AreFoundInTurn left_out_behind
  GoesOn-none left founds = record { more = []; is_longer = sym (append-nil founds); are_found = tt; behind = refl }

  GoesOn-same : (one two three : Omitted) (xs ys zs : List PredictedCycle) → GoesOn bounds log place one two xs ys → three ≡ two → zs ≡ ys → GoesOn bounds log place one three xs zs
  GoesOn-same one two three xs ys zs on left same = record { more = on.more; is_longer = same ∙ on.is_longer; are_found = on.are_found; behind = left ∙ on.behind }

  GoesOn-push : (one two three : Omitted) (xs ys zs : List PredictedCycle) → GoesOn bounds log place one two xs ys → (found : PredictedCycle) → IsFound bounds log place found → HasNew two.labels (labels_blamed found)
      → three ≡ with_labels two (labels_blamed found) → zs ≡ ys ++ found ∷ [] → GoesOn bounds log place one three xs zs
  GoesOn-push one two three xs ys zs on found is new left more = record {
    more = on.more ++ found ∷ [];
    is_longer = more ∙ (ap (λ (ws : List PredictedCycle). ws ++ found ∷ []) on.is_longer ∙ append_assoc xs on.more (found ∷ []));
    are_found = in_turn-push one on.more found on.are_found is (subst (λ (l : Omitted). HasNew l.labels (labels_blamed found)) on.behind new);
    behind = left ∙ (ap (λ (l : Omitted). with_labels l (labels_blamed found)) on.behind ∙ sym (left_out_behind-push one on.more found));
  }

  -- what was found is taken in
  pub GoesOn-takes : (one two three : Omitted) (xs ys zs : List PredictedCycle) → GoesOn bounds log place one two xs ys → (found : Option PredictedCycle) → IfSome found (λ (f : PredictedCycle). IsFound bounds log place f) → TakesIn two three ys zs found
      → GoesOn bounds log place one three xs zs
  GoesOn-takes one two three xs ys zs on None is takes = GoesOn-same one two three xs ys zs on takes.0 takes.1
  GoesOn-takes one two three xs ys zs on (Some found) is takes = ⊎_elim
      (λ same. GoesOn-same one two three xs ys zs on same.0 same.1)
      (λ new. GoesOn-push one two three xs ys zs on found is new.0 new.1 new.2)
      takes

-- ---- round after round

pub behind-none : (first : Omitted) (founds : List PredictedCycle) → founds ≡ [] → first ≡ left_out_behind first founds
unfolding left_out_behind
behind-none first founds none = ap (left_out_behind first) (sym none)

module _ (bounds : Bounds) (log : List Event) (first : Omitted) where
  pub AreFoundIn-none : (founds : List PredictedCycle) → founds ≡ [] → AreFoundIn bounds log first founds
  AreFoundIn-none founds none = record { each = λ i found there. absurd (none-some found (sym (ap (λ (fs : List PredictedCycle). slice_get fs i) none) ∙ there)) }

  -- the first of them are known, and without what they blame the others are found, one after another
  grown : (k : ℕ) (left : Omitted) (founds more : List PredictedCycle) → k ≤ length founds → left ≡ left_out_behind first founds → AreFoundIn bounds log first founds
      → AreFoundInTurn bounds (rest_of (left_out_behind first (take k founds)) log) (place_of (left_out_behind first (take k founds)) log) left more → AreFoundIn bounds log first (founds ++ more) × (left_out_behind left more ≡ left_out_behind first (founds ++ more))
  unfolding AreFoundInTurn left_out_behind
  grown k left founds [] few behind are more = (
    subst (AreFoundIn bounds log first) (sym (append-nil founds)) are,
    behind ∙ ap (left_out_behind first) (sym (append-nil founds)),
  )
  grown k left founds (f ∷ rest) few behind are more =
      let longer = founds ++ f ∷ [] in
      let known : take k longer ≡ take k founds = take-append-le k founds (f ∷ []) few in
      let after : IsFoundAfter bounds log first founds f = record {
        taken = k;
        is_found = more.0.0;
        blames_new = subst (λ (l : Omitted). HasNew l.labels (labels_blamed f)) behind more.0.1;
      } in
      let w = grown k (with_labels left (labels_blamed f)) longer rest (omega (arith, length-append founds (f ∷ [])))
      (ap (λ (l : Omitted). with_labels l (labels_blamed f)) behind ∙ sym (left_out_behind-push first founds f))
      (record { each = each-push (IsFoundAfter bounds log first) founds f are.each after })
      (subst (λ (fs : List PredictedCycle). AreFoundInTurn bounds (rest_of (left_out_behind first fs) log) (place_of (left_out_behind first fs) log) (with_labels left (labels_blamed f)) rest) (sym known) more.1) in
      let same : longer ++ rest ≡ founds ++ f ∷ rest = append_assoc founds (f ∷ []) rest in
      (subst (AreFoundIn bounds log first) same w.0, w.1 ∙ ap (left_out_behind first) same)

  -- a round finds some more
  module _ (left new : Omitted) (before after : List PredictedCycle) (behind : left ≡ left_out_behind first before) (are : AreFoundIn bounds log first before) (on : GoesOn bounds (rest_of left log) (place_of left log) left new before after) where
    both : AreFoundIn bounds log first (before ++ on.more) × (left_out_behind left on.more ≡ left_out_behind first (before ++ on.more))
    both = grown (length before) left before on.more (omega arith) behind are
        (subst (λ (l : Omitted). AreFoundInTurn bounds (rest_of l log) (place_of l log) left on.more) (behind ∙ ap (left_out_behind first) (sym (take_all (length before) before (omega arith)))) on.are_found)

    pub AreFoundIn-more : AreFoundIn bounds log first after
    AreFoundIn-more = subst (AreFoundIn bounds log first) (sym on.is_longer) both.0

    pub behind-more : new ≡ left_out_behind first after
    behind-more = on.behind ∙ (both.1 ∙ ap (left_out_behind first) (sym on.is_longer))

-- ---- the first round of an audit

pub first-round : (log : List Event) (left : Omitted) (rounds : List Told) (told : Told) → slice_get rounds 0 ≡ Some told → Rounds log left (map numbers_of rounds) → IsRound log left (numbers_of told)
unfolding Rounds
first-round log left [] told first are = absurd (none-some told first)
first-round log left (t ∷ rest) told first are = subst (λ x. IsRound log left (numbers_of x)) (same_Some t told first) are.0

pub first-witness : (log : List Event) (left : Omitted) (rounds : List Told) (told : Told) → slice_get rounds 0 ≡ Some told → AreWitnessed true log left rounds → HasWitness true log left told.closing told.witness
unfolding AreWitnessed
first-witness log left [] told first are = absurd (none-some told first)
first-witness log left (t ∷ rest) told first are = subst (λ (x : Told). HasWitness true log left x.closing x.witness) (same_Some t told first) are.0

pub first-each : (P : Told → Type 0) (rounds : List Told) (told : Told) → slice_get rounds 0 ≡ Some told → All P rounds → P told
first-each P [] told first all = absurd (none-some told first)
first-each P (t ∷ rest) told first all = subst P (same_Some t told first) (All-head P t rest all)

-- ---- reads that differ

pub within_log : (log trace : List Event) (differences : List Difference) → AreDifferences log trace differences → All (λ d. d.recorded < length log) differences
within_log log trace differences are =
    All-weaker (Contains differences) (λ d. d.recorded < length log) (λ d there. let differs = ((are.each d).0 there).differs in slice_get_within log d.recorded differs.next differs.there) differences (All-contains_itself differences)
