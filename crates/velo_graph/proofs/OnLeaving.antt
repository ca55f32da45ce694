-- A graph whose nodes give way to their heirs, one slot after another and then row by row.
use Rattle.std.proofs.Common.{◌≡◌, ℕ, ◌+◌, ◌<◌, ◌≤◌, Bool, true, false, not, ◌&&◌, cond, List, map, replicate, set, Option, None, refl, sym, ap, ◌∙◌, subst, ⊎_elim, arith}
use Rattle.std.specs.Prelude.{IsTrue, is_some}
use Rattle.std.specs.Ordering.{nat_cmp}
use Rattle.std.specs.FinSet as finite
use Rattle.std.specs.FinSet.{FinSet}
use Rattle.std.proofs.lemmas.Bool.{cases_eq, cases_lt, cases_Bool, cond-true, cond-false, and_parts, and_from, and_left, and_right, both_ways, not-true, not_from_true, not_from_false, false_from_ne_true, false_from_ne_true}
use Rattle.velo_arena.specs.declared.step.Heir.{Heir}
use Rattle.velo_arena.specs.Slots.{Slots, node_in, is_used, is_finished_in, with_node}
use Rattle.velo_arena.specs.Heirs.{heir_in}
use Rattle.velo_arena.proofs.OnSlots.{stamps-kept}
use Rattle.velo_rows.proofs.OnRising.{has-difference, has-empty}
use Rattle.velo_graph.specs.Nodes.{Nodes, is_ancestor, IsSound}
use Rattle.velo_graph.specs.Rows.{row_of, without, ChangesFirst}
use Rattle.velo_graph.specs.Kept.{KeepsRows, AreUnfinished, KeepsAll}
use Rattle.velo_graph.specs.Vacates.{Vacates, KeepsMarks}
use Rattle.velo_graph.specs.Leaves.{LeavesOut, HaveHeirs}
use Rattle.velo_graph.proofs.OnUnfinished.{is_still}
use Rattle.velo_graph.proofs.OnVacating.{vacates-none, vacates-more, marks-more, here_too, there_too, elsewhere}
use Rattle.velo_graph.proofs.OnCollecting.{some_kept, none_is_some}

-- ---- the slots before an index

pub record LeftTo (old new : Slots) (heirs : List (Option Heir)) (gone : FinSet nat_cmp) (before after : List Bool) (index : ℕ) : Type 0 where
  pub vacates : Vacates old new gone
  pub have : HaveHeirs heirs gone index
  pub marks : KeepsMarks before after gone

pub left-none : (slots : Slots) (heirs : List (Option Heir)) (gone : FinSet nat_cmp) (marks : List Bool) → gone ≡ finite.empty → LeftTo slots slots heirs gone marks marks 0
left-none slots heirs gone marks none =
    let no : (k : ℕ) → finite.contains gone k ≡ false = λ k. ap (λ s. finite.contains s k) none ∙ has-empty k in
    record {
      vacates = vacates-none slots gone none;
      have =
          record {
            below = λ k there. absurd (both_ways (finite.contains gone k) (no k) there);
            each = λ k there. absurd (both_ways (finite.contains gone k) (no k) there);
            all = λ k below heir. absurd (omega arith);
          };
      marks = record { same_length = refl; others = λ k other. refl };
    }

pub left-step : (old new new' : Slots) (heirs : List (Option Heir)) (gone gone' : FinSet nat_cmp) (before after after' : List Bool) (index : ℕ) → LeftTo old new heirs gone before after index → IsTrue (is_some (heir_in heirs index)) → gone' ≡ finite.insert gone index → new' ≡ with_node new index None → after' ≡ set after index false → LeftTo old new' heirs gone' before after' (index + 1)
left-step old new new' heirs gone gone' before after after' index so_far heir is freed_is marks_are =
    record {
      vacates = subst (λ (slots : Slots). Vacates old slots gone') (sym freed_is) (vacates-more gone gone' index is old new so_far.vacates);
      have =
          record {
            below =
                λ k there.
                ⊎_elim (λ (here : k ≡ index). omega arith) (λ (other : k ≡ index → ⊥). omega (arith, so_far.have.below k (sym (elsewhere gone gone' index is k other) ∙ there))) (cases_eq k index);
            each =
                λ k there.
                ⊎_elim
                (λ (here : k ≡ index). subst (λ j. IsTrue (is_some (heir_in heirs j))) (sym here) heir)
                (λ (other : k ≡ index → ⊥). so_far.have.each k (sym (elsewhere gone gone' index is k other) ∙ there))
                (cases_eq k index);
            all =
                λ k below some.
                ⊎_elim (λ (here : k ≡ index). here_too gone gone' index is k here) (λ (other : k ≡ index → ⊥). there_too gone gone' index is k (so_far.have.all k (omega (arith, other)) some)) (cases_eq k index);
          };
      marks = subst (λ (marks : List Bool). KeepsMarks before marks gone') (sym marks_are) (marks-more gone gone' index is before after so_far.marks);
    }

pub left-stay : (old new new' : Slots) (heirs : List (Option Heir)) (gone gone' : FinSet nat_cmp) (before after after' : List Bool) (index : ℕ) → LeftTo old new heirs gone before after index → is_some (heir_in heirs index) ≡ false → gone' ≡ gone → new' ≡ new → after' ≡ after → LeftTo old new' heirs gone' before after' (index + 1)
left-stay old new new' heirs gone gone' before after after' index so_far none is slots_are marks_are =
    subst (λ (slots : Slots). LeftTo old slots heirs gone' before after' (index + 1)) (sym slots_are)
    (subst (λ (marks : List Bool). LeftTo old new heirs gone' before marks (index + 1)) (sym marks_are)
    (subst (λ (members : FinSet nat_cmp). LeftTo old new heirs members before after (index + 1)) (sym is)
    (record {
      vacates = so_far.vacates;
      have =
          record {
            below = λ k there. omega (arith, so_far.have.below k there);
            each = so_far.have.each;
            all =
                λ k below some.
                ⊎_elim
                (λ (here : k ≡ index). absurd (both_ways (is_some (heir_in heirs index)) none (subst (λ j. IsTrue (is_some (heir_in heirs j))) here some)))
                (λ (other : k ≡ index → ⊥). so_far.have.all k (omega (arith, other)) some)
                (cases_eq k index);
          };
      marks = so_far.marks;
    })))

-- ---- after both passes

has-without : (goes : Bool) (gone row : FinSet nat_cmp) (m : ℕ) → finite.contains (without goes gone row) m ≡ (not goes && (finite.contains row m && not (finite.contains gone m)))
has-without true gone row m = has-empty m
has-without false gone row m = has-difference row gone m

regroup : (a g h u v : Bool) → (a ≡ true → u ≡ true) → (a ≡ true → v ≡ true) → (not h && (a && not g)) ≡ ((not g && u) && ((not h && v) && a))
regroup false g h u v first second = and_right (not h) (false && not g) refl ∙ sym (and_right (not g && u) ((not h && v) && false) (and_right (not h && v) false refl))
regroup true g h u v first second = by g h ∙ ap (λ b. (not g && b) && ((not h && true) && true)) (sym (first refl)) ∙ ap (λ b. (not g && u) && ((not h && b) && true)) (sym (second refl))
  where
    by : (x y : Bool) → (not y && (true && not x)) ≡ ((not x && true) && ((not y && true) && true))
    by true true = refl
    by true false = refl
    by false true = refl
    by false false = refl

module _ (old : Nodes) (slots : Slots) (rows : List (FinSet nat_cmp)) (unfinished gone : FinSet nat_cmp) (heirs : List (Option Heir)) (limit end : ℕ) (sound : IsSound old) (still : AreUnfinished old.slots unfinished limit) (done : (k : ℕ) → IsTrue (is_some (heir_in heirs k)) → IsTrue (is_finished_in old.slots k)) (used_of : (k : ℕ) → IsTrue (is_some (heir_in heirs k)) → IsTrue (is_used old.slots k)) (vacates : Vacates old.slots slots gone) (have : HaveHeirs heirs gone end) (within : (k : ℕ) → IsTrue (is_used old.slots k) → k < end) (changes : ChangesFirst (λ k. without (finite.contains gone k) gone) old.ancestors rows end) where
  abbrev after : Nodes
  after = record { slots = slots; ancestors = rows }

  goes-heir : (k : ℕ) → finite.contains gone k ≡ is_some (heir_in heirs k)
  goes-heir k =
      ⊎_elim
      (λ (there : finite.contains gone k ≡ true). there ∙ sym (have.each k there))
      (λ (out : finite.contains gone k ≡ false). out ∙ sym (false_from_ne_true (is_some (heir_in heirs k)) (λ some. both_ways (finite.contains gone k) out (have.all k (within k (used_of k some)) some))))
      (cases_Bool (finite.contains gone k))

  same_node : (k : ℕ) → finite.contains gone k ≡ false → node_in slots k ≡ node_in old.slots k
  same_node k out = vacates.each k ∙ cond-false (finite.contains gone k) None (node_in old.slots k) out

  no_node : (k : ℕ) → finite.contains gone k ≡ true → node_in slots k ≡ None
  no_node k there = vacates.each k ∙ cond-true (finite.contains gone k) None (node_in old.slots k) there

  used_after : (k : ℕ) → is_used slots k ≡ (not (finite.contains gone k) && is_used old.slots k)
  used_after k = ap is_some (vacates.each k) ∙ some_kept (finite.contains gone k) (node_in old.slots k)

  ancestor_after : (m n : ℕ) → is_ancestor after m n ≡ (not (finite.contains gone n) && (is_ancestor old m n && not (finite.contains gone m)))
  unfolding is_ancestor
  ancestor_after m n =
      ⊎_elim
      (λ (lt : n < end). ap (λ s. finite.contains s m) (changes.first n lt) ∙ has-without (finite.contains gone n) gone (row_of old.ancestors n) m)
      (λ (past : end ≤ n).
      let none : finite.contains (row_of old.ancestors n) m ≡ false = false_from_ne_true (finite.contains (row_of old.ancestors n) m) (λ before. omega (arith, within n (sound.descendant_used m n before))) in
      ap (λ s. finite.contains s m) (changes.others n past)
      ∙ none
      ∙ sym (and_right (not (finite.contains gone n)) (finite.contains (row_of old.ancestors n) m && not (finite.contains gone m)) (and_left (finite.contains (row_of old.ancestors n) m) (not (finite.contains gone m)) none)))
      (cases_lt n end)

  parts_after : (m n : ℕ) → IsTrue (is_ancestor after m n) → IsTrue (is_ancestor old m n) × (finite.contains gone m ≡ false) × (finite.contains gone n ≡ false)
  parts_after m n before =
      let both = and_parts (not (finite.contains gone n)) (is_ancestor old m n && not (finite.contains gone m)) (sym (ancestor_after m n) ∙ before) in
      let inner = and_parts (is_ancestor old m n) (not (finite.contains gone m)) both.1 in
      (inner.0, not-true (finite.contains gone m) inner.1, not-true (finite.contains gone n) both.0)

  from_parts : (m n : ℕ) → IsTrue (is_ancestor old m n) → finite.contains gone m ≡ false → finite.contains gone n ≡ false → IsTrue (is_ancestor after m n)
  from_parts m n before first second =
      ancestor_after m n
      ∙ and_from (not (finite.contains gone n)) (is_ancestor old m n && not (finite.contains gone m)) (not_from_false (finite.contains gone n) second) (and_from (is_ancestor old m n) (not (finite.contains gone m)) before (not_from_false (finite.contains gone m) first))

  still_used : (k : ℕ) → finite.contains gone k ≡ false → IsTrue (is_used old.slots k) → IsTrue (is_used slots k)
  still_used k out used = used_after k ∙ and_from (not (finite.contains gone k)) (is_used old.slots k) (not_from_false (finite.contains gone k) out) used

  pub leaves : LeavesOut old after heirs
  leaves =
      record {
        newest = vacates.newest;
        limit = vacates.limit;
        each = λ k. vacates.each k ∙ ap (λ b. cond b None (node_in old.slots k)) (goes-heir k);
        ancestors =
            λ m n.
            ancestor_after m n
            ∙ regroup (is_ancestor old m n) (finite.contains gone m) (finite.contains gone n) (is_used old.slots m) (is_used old.slots n) (sound.ancestor_used m n) (sound.descendant_used m n)
            ∙ ap (λ b. b && ((not (finite.contains gone n) && is_used old.slots n) && is_ancestor old m n)) (sym (used_after m))
            ∙ ap (λ b. is_used slots m && (b && is_ancestor old m n)) (sym (used_after n));
      }

  pub sound_after : IsSound after
  sound_after =
      record {
        own_stamps =
            stamps-kept old.slots slots (λ k n is.
            ⊎_elim
            (λ (there : finite.contains gone k ≡ true). absurd (none_is_some (node_in slots k) n (no_node k there) is))
            (λ (out : finite.contains gone k ≡ false). (n, sym (same_node k out) ∙ is, refl))
            (cases_Bool (finite.contains gone k))) vacates.newest sound.own_stamps;
        order =
            record {
              irreflexive = λ n. ancestor_after n n ∙ and_right (not (finite.contains gone n)) (is_ancestor old n n && not (finite.contains gone n)) (and_left (is_ancestor old n n) (not (finite.contains gone n)) (sound.order.irreflexive n));
              transitive = λ k m n first second. let a = parts_after k m first in let b = parts_after m n second in from_parts k n (sound.order.transitive k m n a.0 b.0) a.1 b.2;
            };
        ancestor_used = λ m n before. let a = parts_after m n before in still_used m a.1 (sound.ancestor_used m n a.0);
        descendant_used = λ m n before. let a = parts_after m n before in still_used n a.2 (sound.descendant_used m n a.0);
      }

  pub kept_after : (limits limits' : List ℕ) (carried carried' : ℕ) (leads leads' : List Bool) → KeepsRows old limits carried leads → limits' ≡ limits → carried' ≡ carried → KeepsMarks leads leads' gone → KeepsRows after limits' carried' leads'
  kept_after limits limits' carried carried' leads leads' kept same_limits same_carried marks =
      record {
        rows = same_limits ∙ kept.rows ∙ ap (λ n. replicate n n) (sym vacates.limit);
        carried = same_carried ∙ kept.carried ∙ sym vacates.limit;
        marks = marks.same_length ∙ kept.marks ∙ sym vacates.limit;
        marked = λ m n before. let a = parts_after m n before in marks.others m a.1 ∙ kept.marked m n a.0;
        sound = sound_after;
      }

  pub unfinished_after : AreUnfinished slots unfinished limit
  unfinished_after =
      record {
        members =
            λ k.
            still.members k
            ∙ ⊎_elim
            (λ (there : finite.contains gone k ≡ true).
            and_right (is_used old.slots k) (not (is_finished_in old.slots k)) (not_from_true (is_finished_in old.slots k) (done k (have.each k there))) ∙ sym (ap is_still (no_node k there)))
            (λ (out : finite.contains gone k ≡ false). sym (ap is_still (same_node k out)))
            (cases_Bool (finite.contains gone k));
        limit = still.limit ∙ sym vacates.limit;
      }

-- ---- the same of the fields, lent out and given back

pub leaves-all : {X : Type 0} (members : X → FinSet nat_cmp) (capacity : X → ℕ) (before after_slots : Slots) (old lent written items : List X) (leads leads_lent leads_written leads_items : List Bool) (unfinished gone : FinSet nat_cmp) (heirs : List (Option Heir)) (limit end carried carried' : ℕ) →
    KeepsAll (record { slots = before; ancestors = map members old }) (map capacity old) carried leads unfinished limit →
    lent ≡ old → items ≡ written → leads_lent ≡ leads → leads_items ≡ leads_written →
    ((k : ℕ) → IsTrue (is_used before k) → k < end) →
    ((k : ℕ) → IsTrue (is_some (heir_in heirs k)) → IsTrue (is_finished_in before k)) →
    ((k : ℕ) → IsTrue (is_some (heir_in heirs k)) → IsTrue (is_used before k)) →
    Vacates before after_slots gone → HaveHeirs heirs gone end → KeepsMarks leads_lent leads_written gone →
    ChangesFirst (λ k. without (finite.contains gone k) gone) (map members lent) (map members written) end → map capacity written ≡ map capacity lent → carried' ≡ carried →
    KeepsAll (record { slots = after_slots; ancestors = map members items }) (map capacity items) carried' leads_items unfinished limit
    × LeavesOut (record { slots = before; ancestors = map members old }) (record { slots = after_slots; ancestors = map members items }) heirs
leaves-all {X} members capacity before after_slots old lent written items leads leads_lent leads_written leads_items unfinished gone heirs limit end carried carried' all lent_is items_are leads_are marks_are within done used_of vacates have marks changes capacities same_carried =
    let nodes : Nodes = record { slots = before; ancestors = map members old } in
    let rows = map members items in
    let change : ℕ → FinSet nat_cmp → FinSet nat_cmp = λ k. without (finite.contains gone k) gone in
    let from_old = subst (λ (xs : List X). ChangesFirst change (map members xs) (map members written) end) lent_is changes in
    let to_items = subst (λ (xs : List X). ChangesFirst change (map members old) (map members xs) end) (sym items_are) from_old in
    let from_leads = subst (λ (bs : List Bool). KeepsMarks bs leads_written gone) leads_are marks in
    let to_leads = subst (λ (bs : List Bool). KeepsMarks leads bs gone) (sym marks_are) from_leads in
    let limits = ap (map capacity) items_are ∙ capacities ∙ ap (map capacity) lent_is in (
      record {
        kept = kept_after nodes after_slots rows unfinished gone heirs limit end all.kept.sound all.unfinished done used_of vacates have within to_items (map capacity old) (map capacity items) carried carried' leads leads_items all.kept limits same_carried to_leads;
        unfinished = unfinished_after nodes after_slots rows unfinished gone heirs limit end all.kept.sound all.unfinished done used_of vacates have within to_items;
      },
      leaves nodes after_slots rows unfinished gone heirs limit end all.kept.sound all.unfinished done used_of vacates have within to_items,
    )

-- ---- the same of an equal graph

pub leaves_from : (old old' new : Nodes) (heirs : List (Option Heir)) → old ≡ old' → LeavesOut old new heirs → LeavesOut old' new heirs
leaves_from old old' new heirs same leaves = subst (λ (nodes : Nodes). LeavesOut nodes new heirs) same leaves
