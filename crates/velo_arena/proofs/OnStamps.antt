-- The stamps in use: rising, as many as there are slots in use, and each of some slot.
use Rattle.std.proofs.Common.{◌≡◌, ℕ, zero, suc, ◌+◌, ◌<◌, ◌≤◌, true, false, ◌||◌, eqb, ltb, List, [], ◌∷◌, length, get_or, Option, Some, None, refl, sym, ap, ◌∙◌, subst, ⊎_elim, arith}
use Rattle.std.specs.Prelude.{is_some, count_by, Contains}
use Rattle.std.specs.List.{list_any}
use Rattle.std.specs.List.Sorted.{IsStrictlyIncreasing}
use Rattle.std.specs.Cmp.{nat_eq_equiv}
use Rattle.std.proofs.lemmas.Bool.{cases_Bool, cond-true, cond-false, ltb-true, ltb-false, or_cases, or_left, or_right, or_parts, eqb-true, eq-eqb, false≢true, false_from_ne_true, eqb-false}
use Rattle.std.proofs.lemmas.List.Sums.{sum_by-cons}
use Rattle.std.proofs.lemmas.Map.Views.{Contains-from_any, list_any-from_Contains, exact_unsigned_eq}
use Rattle.velo_events.proofs.OnTests.{or_regroup}
use Rattle.velo_arena.specs.declared.step.Node.{Node}
use Rattle.velo_arena.specs.Slots.{Slots, node_in, used_in, HasOwnStamps}
use Rattle.velo_arena.specs.Stamps.{put_in_order, stamps_of_nodes, stamps_in}
use Rattle.velo_arena.proofs.OnFree.{one_if_used}

-- ---- a number put among rising ones

-- the first number is above the bound, and each is above the one before
abbrev ClimbsFrom : ℕ → List ℕ → Type 0
ClimbsFrom bound [] = Unit {0}
ClimbsFrom bound (x ∷ xs) = (bound < x) × ClimbsFrom x xs

abbrev Climbs : List ℕ → Type 0
Climbs [] = Unit {0}
Climbs (x ∷ xs) = ClimbsFrom x xs

climbs-put_from : (bound z : ℕ) (xs : List ℕ) → bound < z → ClimbsFrom bound xs → list_any (eqb z) xs ≡ false → ClimbsFrom bound (put_in_order z xs)
climbs-put_from bound z [] above climbs new = (above, tt)
climbs-put_from bound z (x ∷ xs) above climbs new =
    ⊎_elim
    (λ (lt : ltb z x ≡ true). subst (ClimbsFrom bound) (sym (cond-true (ltb z x) (z ∷ x ∷ xs) (x ∷ put_in_order z xs) lt)) (above, (ltb-true z x lt, climbs.1)))
    (λ (ge : ltb z x ≡ false).
    let parts = or_parts (eqb z x) (list_any (eqb z) xs) new in
    let le : x ≤ z = ltb-false z x ge in
    let other : z ≡ x → ⊥ = eqb-false z x parts.0 in
    subst (ClimbsFrom bound) (sym (cond-false (ltb z x) (z ∷ x ∷ xs) (x ∷ put_in_order z xs) ge)) (climbs.0, climbs-put_from x z xs (omega (arith, other)) climbs.1 parts.1))
    (cases_Bool (ltb z x))

climbs-put : (z : ℕ) (xs : List ℕ) → Climbs xs → list_any (eqb z) xs ≡ false → Climbs (put_in_order z xs)
climbs-put z [] climbs new = tt
climbs-put z (x ∷ xs) climbs new =
    ⊎_elim
    (λ (lt : ltb z x ≡ true). subst Climbs (sym (cond-true (ltb z x) (z ∷ x ∷ xs) (x ∷ put_in_order z xs) lt)) (ltb-true z x lt, climbs))
    (λ (ge : ltb z x ≡ false).
    let parts = or_parts (eqb z x) (list_any (eqb z) xs) new in
    let le : x ≤ z = ltb-false z x ge in
    let other : z ≡ x → ⊥ = eqb-false z x parts.0 in
    subst Climbs (sym (cond-false (ltb z x) (z ∷ x ∷ xs) (x ∷ put_in_order z xs) ge)) (climbs-put_from x z xs (omega (arith, other)) climbs parts.1))
    (cases_Bool (ltb z x))

length-put : (z : ℕ) (xs : List ℕ) → length (put_in_order z xs) ≡ suc (length xs)
length-put z [] = refl
length-put z (x ∷ xs) =
    ⊎_elim
    (λ (lt : ltb z x ≡ true). ap length (cond-true (ltb z x) (z ∷ x ∷ xs) (x ∷ put_in_order z xs) lt))
    (λ (ge : ltb z x ≡ false). ap length (cond-false (ltb z x) (z ∷ x ∷ xs) (x ∷ put_in_order z xs) ge) ∙ ap suc (length-put z xs))
    (cases_Bool (ltb z x))

any-put : (q z : ℕ) (xs : List ℕ) → list_any (eqb q) (put_in_order z xs) ≡ (eqb q z || list_any (eqb q) xs)
any-put q z [] = refl
any-put q z (x ∷ xs) =
    ⊎_elim
    (λ (lt : ltb z x ≡ true). ap (list_any (eqb q)) (cond-true (ltb z x) (z ∷ x ∷ xs) (x ∷ put_in_order z xs) lt))
    (λ (ge : ltb z x ≡ false).
    ap (list_any (eqb q)) (cond-false (ltb z x) (z ∷ x ∷ xs) (x ∷ put_in_order z xs) ge)
    ∙ ap (λ b. eqb q x || b) (any-put q z xs)
    ∙ or_regroup (eqb q x) (eqb q z) (list_any (eqb q) xs))
    (cases_Bool (ltb z x))

rising-from_climbs_from : (bound : ℕ) (xs : List ℕ) → ClimbsFrom bound xs → IsStrictlyIncreasing (bound ∷ xs)
rising-from_climbs_from bound [] climbs k more = absurd (omega arith)
rising-from_climbs_from bound (x ∷ xs) climbs zero more = climbs.0
rising-from_climbs_from bound (x ∷ xs) climbs (suc k) more =
    let next : suc k + 1 ≡ suc (k + 1) = omega arith in
    subst (λ (j : ℕ). get_or (x ∷ xs) k 0 < get_or (bound ∷ x ∷ xs) j 0) (sym next) (rising-from_climbs_from x xs climbs.1 k (omega arith))

rising-from_climbs : (xs : List ℕ) → Climbs xs → IsStrictlyIncreasing xs
rising-from_climbs [] climbs k more = absurd (omega arith)
rising-from_climbs (x ∷ xs) climbs k more = rising-from_climbs_from x xs climbs k more

-- ---- the stamps of the nodes

-- no two places of the list bear one stamp
abbrev StampsApart : List (Option Node) → Type 0
StampsApart nodes =
    (j k : ℕ) (m n : Node) → get_or nodes j None ≡ Some m → get_or nodes k None ≡ Some n → m.stamp ≡ n.stamp → j ≡ k

apart-tail : (first : Option Node) (nodes : List (Option Node)) → StampsApart (first ∷ nodes) → StampsApart nodes
apart-tail first nodes apart j k m n at_j at_k same = let next : suc j ≡ suc k = apart (suc j) (suc k) m n at_j at_k same in omega arith

place_of_stamp : (nodes : List (Option Node)) (z : ℕ) → list_any (eqb z) (stamps_of_nodes nodes) ≡ true → (k : ℕ) × (n : Node) × (get_or nodes k None ≡ Some n) × (n.stamp ≡ z)
place_of_stamp [] z there = absurd (false≢true there)
place_of_stamp (None ∷ nodes) z there = let place = place_of_stamp nodes z there in (suc place.0, place.1, place.2, place.3)
place_of_stamp (Some n ∷ nodes) z there =
    ⊎_elim
    (λ (here : eqb z n.stamp ≡ true). (zero, n, refl, sym (eqb-true z n.stamp here)))
    (λ (later : list_any (eqb z) (stamps_of_nodes nodes) ≡ true). let place = place_of_stamp nodes z later in (suc place.0, place.1, place.2, place.3))
    (or_cases (eqb z n.stamp) (list_any (eqb z) (stamps_of_nodes nodes)) (sym (any-put z n.stamp (stamps_of_nodes nodes)) ∙ there))

stamp_of_place : (nodes : List (Option Node)) (k : ℕ) (n : Node) → get_or nodes k None ≡ Some n → list_any (eqb n.stamp) (stamps_of_nodes nodes) ≡ true
stamp_of_place [] k n there = absurd (nothing n there)
  where
    nothing : (n : Node) → None ≡ Some n → ⊥
    nothing n e = cc
stamp_of_place (None ∷ nodes) zero n there = absurd (nothing n there)
  where
    nothing : (n : Node) → None ≡ Some n → ⊥
    nothing n e = cc
stamp_of_place (None ∷ nodes) (suc k) n there = stamp_of_place nodes k n there
stamp_of_place (Some m ∷ nodes) zero n there =
    any-put n.stamp m.stamp (stamps_of_nodes nodes) ∙ or_left _ _ (eq-eqb n.stamp m.stamp (stamp_same m n there))
  where
    stamp_same : (m n : Node) → Some m ≡ Some n → n.stamp ≡ m.stamp
    stamp_same m n e = let same : m ≡ n = cc in ap (λ (x : Node). x.stamp) (sym same)
stamp_of_place (Some m ∷ nodes) (suc k) n there =
    any-put n.stamp m.stamp (stamps_of_nodes nodes) ∙ or_right (eqb n.stamp m.stamp) _ (stamp_of_place nodes k n there)

-- the first stamp is not among the later ones
new-stamp : (n : Node) (nodes : List (Option Node)) → StampsApart (Some n ∷ nodes) → list_any (eqb n.stamp) (stamps_of_nodes nodes) ≡ false
new-stamp n nodes apart =
    false_from_ne_true (list_any (eqb n.stamp) (stamps_of_nodes nodes)) (λ there.
    let place = place_of_stamp nodes n.stamp there in
    let same : zero ≡ suc place.0 = apart zero (suc place.0) n place.1 refl place.2 (sym place.3) in
    omega arith)

climbs-stamps : (nodes : List (Option Node)) → StampsApart nodes → Climbs (stamps_of_nodes nodes)
climbs-stamps [] apart = tt
climbs-stamps (None ∷ nodes) apart = climbs-stamps nodes (apart-tail None nodes apart)
climbs-stamps (Some n ∷ nodes) apart = climbs-put n.stamp (stamps_of_nodes nodes) (climbs-stamps nodes (apart-tail (Some n) nodes apart)) (new-stamp n nodes apart)

length-stamps : (nodes : List (Option Node)) → length (stamps_of_nodes nodes) ≡ count_by is_some nodes
length-stamps [] = refl
length-stamps (None ∷ nodes) =
    let count : count_by is_some (None ∷ nodes) ≡ 0 + count_by is_some nodes = sum_by-cons one_if_used None nodes in
    omega (arith, length-stamps nodes)
length-stamps (Some n ∷ nodes) =
    let count : count_by is_some (Some n ∷ nodes) ≡ 1 + count_by is_some nodes = sum_by-cons one_if_used (Some n) nodes in
    let put : length (put_in_order n.stamp (stamps_of_nodes nodes)) ≡ suc (length (stamps_of_nodes nodes)) = length-put n.stamp (stamps_of_nodes nodes) in
    omega (arith, length-stamps nodes)

-- ---- the stamps of an arena

-- as many as there are slots in use
pub length-stamps_in : (slots : Slots) → length (stamps_in slots) ≡ used_in slots
length-stamps_in slots = length-stamps slots.nodes

-- each once, rising
pub IsStrictlyIncreasing-stamps_in : (slots : Slots) → HasOwnStamps slots → IsStrictlyIncreasing (stamps_in slots)
IsStrictlyIncreasing-stamps_in slots own = rising-from_climbs (stamps_in slots) (climbs-stamps slots.nodes own.apart)

-- each of them is borne by some slot
pub slot_of_stamp : (slots : Slots) (z : ℕ) → Contains (stamps_in slots) z → (k : ℕ) × (n : Node) × (node_in slots k ≡ Some n) × (n.stamp ≡ z)
slot_of_stamp slots z among = place_of_stamp slots.nodes z (list_any-from_Contains nat_eq_equiv z (stamps_in slots) among)

-- and each slot's is among them
pub Contains-stamp : (slots : Slots) (k : ℕ) (n : Node) → node_in slots k ≡ Some n → Contains (stamps_in slots) n.stamp
Contains-stamp slots k n there = Contains-from_any {eq = eqb} exact_unsigned_eq n.stamp (stamps_in slots) (stamp_of_place slots.nodes k n there)
