-- The list of free slots, as slots are given out and come back.
use Rattle.std.proofs.Common.{◌≡◌, ◌≢◌, ℕ, ◌+◌, ◌-◌, ◌<◌, ◌≤◌, cond, List, [], ◌∷◌, ◌++◌, length, get_or, set, Option, Some, None, sym, refl, ap, ◌∙◌, ⊎_elim, arith, get_or-set_other, length-set}
use Rattle.std.specs.Prelude.{is_some, count_by, IsTrue}
use Rattle.std.proofs.lemmas.List.{get_or_append_left, get_or_push, length_push}
use Rattle.std.proofs.lemmas.List.Sums.{sum_by-set}
use Rattle.std.proofs.lemmas.Bool.{cases_eq, cases_lt}
use Rattle.velo_arena.specs.declared.step.Node.{Node}
use Rattle.velo_arena.specs.Kept.{TracksFree, CountsDown}
use Rattle.velo_arena.specs.Slots.{Slots, node_in, is_used, used_in, with_node}
use Rattle.velo_arena.proofs.OnSlots.{in_range, freed, node_of_used}

-- ---- how many slots are in use

abbrev pub one_if_used : Option Node → ℕ
one_if_used node = cond (is_some node) 1 0

-- the count after a slot was written
pub count-set : (nodes : List (Option Node)) (slot : ℕ) (node : Option Node) → slot < length nodes → count_by is_some (set nodes slot node) + one_if_used (get_or nodes slot None) ≡ count_by is_some nodes + one_if_used node
count-set nodes slot node inside = sum_by-set one_if_used nodes slot node None inside

-- ---- a slot is given out

no_longer : (nodes : List (Option Node)) (n : Node) (slot : ℕ) → get_or nodes slot None ≡ Some n → get_or nodes slot None ≡ None → ⊥
no_longer nodes n slot used free = cc

pub tracks-open : (nodes : List (Option Node)) (free : List ℕ) (slot room extent last : ℕ) (node : Node) → TracksFree nodes (free ++ slot ∷ []) room extent → extent ≤ last → slot < last → last ≤ length nodes → TracksFree (set nodes slot (Some node)) free room last
tracks-open nodes free slot room extent last node tracks grown over within =
    let len : length (free ++ slot ∷ []) ≡ length free + 1 = length_push free slot in
    let end : get_or (free ++ slot ∷ []) (length free) 0 ≡ slot = get_or_push free slot 0 (length free) refl in
    let same : (k : ℕ) → k < length free → get_or (free ++ slot ∷ []) k 0 ≡ get_or free k 0 = λ k inside. get_or_append_left free (slot ∷ []) 0 k inside in
    let unused : get_or nodes slot None ≡ None = ap (λ i. get_or nodes i None) (sym end) ∙ tracks.each_free (length free) (omega arith) in
    let inside : slot < length nodes = omega arith in
    let now : length (set nodes slot (Some node)) ≡ length nodes = length-set nodes slot (Some node) in
    let before : one_if_used (get_or nodes slot None) ≡ 0 = ap one_if_used unused in
    let count : count_by is_some (set nodes slot (Some node)) + one_if_used (get_or nodes slot None) ≡ count_by is_some nodes + 1 = count-set nodes slot (Some node) inside in
    let all : count_by is_some nodes + length (free ++ slot ∷ []) ≡ length nodes = tracks.counted in
    record {
      each_free =
          λ k lt.
          let is : get_or (free ++ slot ∷ []) k 0 ≡ get_or free k 0 = same k lt in
          let other : get_or free k 0 ≢ slot = λ (e : get_or free k 0 ≡ slot). tracks.each_once k (length free) lt (omega arith) (is ∙ e ∙ sym end) in
          get_or-set_other nodes slot (get_or free k 0) (Some node) None other ∙ ap (λ i. get_or nodes i None) (sym is) ∙ tracks.each_free k (omega arith);
      in_range =
          λ k lt.
          let is : get_or (free ++ slot ∷ []) k 0 ≡ get_or free k 0 = same k lt in
          let old : get_or (free ++ slot ∷ []) k 0 < length nodes = tracks.in_range k (omega arith) in
          omega arith;
      each_once = λ j k lt below e. tracks.each_once j k lt (omega arith) (same j (omega arith) ∙ e ∙ sym (same k below));
      counted = omega arith;
      has_room = let old : length nodes ≤ room = tracks.has_room in omega arith;
      untouched =
          λ k past.
          let other : k ≢ slot = λ (e : k ≡ slot). omega arith in
          get_or-set_other nodes slot k (Some node) None other ∙ tracks.untouched k (omega arith);
      within = omega arith;
      small = let old : length nodes < 65536 = tracks.small in omega arith;
    }

pub last_in_range : (nodes : List (Option Node)) (free : List ℕ) (slot room extent : ℕ) → TracksFree nodes (free ++ slot ∷ []) room extent → (slot < length nodes) × (get_or nodes slot None ≡ None)
last_in_range nodes free slot room extent tracks =
    let len : length (free ++ slot ∷ []) ≡ length free + 1 = length_push free slot in
    let end : get_or (free ++ slot ∷ []) (length free) 0 ≡ slot = get_or_push free slot 0 (length free) refl in
    let inside : get_or (free ++ slot ∷ []) (length free) 0 < length nodes = tracks.in_range (length free) (omega arith) in
    (omega arith, ap (λ i. get_or nodes i None) (sym end) ∙ tracks.each_free (length free) (omega arith))

-- ---- a slot comes back

pub tracks-free : (nodes : List (Option Node)) (free : List ℕ) (slot room extent : ℕ) (node : Node) → get_or nodes slot None ≡ Some node → TracksFree nodes free room extent → TracksFree (set nodes slot None) (free ++ slot ∷ []) room extent
tracks-free nodes free slot room extent node used tracks =
    let len : length (free ++ slot ∷ []) ≡ length free + 1 = length_push free slot in
    let end : get_or (free ++ slot ∷ []) (length free) 0 ≡ slot = get_or_push free slot 0 (length free) refl in
    let same : (k : ℕ) → k < length free → get_or (free ++ slot ∷ []) k 0 ≡ get_or free k 0 = λ k inside. get_or_append_left free (slot ∷ []) 0 k inside in
    let inside : slot < length nodes = in_range nodes slot node used in
    let now : length (set nodes slot None) ≡ length nodes = length-set nodes slot None in
    let before : one_if_used (get_or nodes slot None) ≡ 1 = ap one_if_used used in
    let count : count_by is_some (set nodes slot None) + one_if_used (get_or nodes slot None) ≡ count_by is_some nodes + 0 = count-set nodes slot None inside in
    let all : count_by is_some nodes + length free ≡ length nodes = tracks.counted in
    let others : (k : ℕ) → k < length free → get_or free k 0 ≢ slot = λ k lt e. no_longer nodes node slot used (ap (λ i. get_or nodes i None) (sym e) ∙ tracks.each_free k lt) in
    let is_last : (k : ℕ) → k < length (free ++ slot ∷ []) → length free ≤ k → k ≡ length free = λ k lt ge. omega arith in
    record {
      each_free =
          λ k below.
          ⊎_elim
          (λ (lt : k < length free).
          ap (λ i. get_or (set nodes slot None) i None) (same k lt)
          ∙ get_or-set_other nodes slot (get_or free k 0) None None (others k lt)
          ∙ tracks.each_free k lt)
          (λ (ge : length free ≤ k). ap (λ i. get_or (set nodes slot None) (get_or (free ++ slot ∷ []) i 0) None) (is_last k below ge) ∙ ap (λ i. get_or (set nodes slot None) i None) end ∙ freed nodes slot)
          (cases_lt k (length free));
      in_range =
          λ k below.
          ⊎_elim
          (λ (lt : k < length free).
          let is : get_or (free ++ slot ∷ []) k 0 ≡ get_or free k 0 = same k lt in
          let old : get_or free k 0 < length nodes = tracks.in_range k lt in
          omega arith)
          (λ (ge : length free ≤ k).
          let is : get_or (free ++ slot ∷ []) k 0 ≡ slot = ap (λ i. get_or (free ++ slot ∷ []) i 0) (is_last k below ge) ∙ end in
          omega arith)
          (cases_lt k (length free));
      each_once =
          λ j k lt below e.
          ⊎_elim
          (λ (k_lt : k < length free). tracks.each_once j k lt k_lt (sym (same j (omega arith)) ∙ e ∙ same k k_lt))
          (λ (ge : length free ≤ k).
          let j_lt : j < length free = omega arith in
          others j j_lt (sym (same j j_lt) ∙ e ∙ ap (λ i. get_or (free ++ slot ∷ []) i 0) (is_last k below ge) ∙ end))
          (cases_lt k (length free));
      counted = omega arith;
      has_room = let old : length nodes ≤ room = tracks.has_room in omega arith;
      untouched =
          λ k past.
          ⊎_elim
          (λ (e : k ≡ slot). ap (λ i. get_or (set nodes slot None) i None) e ∙ freed nodes slot)
          (λ (other : k ≡ slot → ⊥). get_or-set_other nodes slot k None None other ∙ tracks.untouched k past)
          (cases_eq k slot);
      within = let old : extent ≤ length nodes = tracks.within in omega arith;
      small = let old : length nodes < 65536 = tracks.small in omega arith;
    }

-- ---- a slot in use gets another node

pub tracks-rewrite : (nodes : List (Option Node)) (free : List ℕ) (slot room extent : ℕ) (was node : Node) → get_or nodes slot None ≡ Some was → TracksFree nodes free room extent → TracksFree (set nodes slot (Some node)) free room extent
tracks-rewrite nodes free slot room extent was node used tracks =
    let inside : slot < length nodes = in_range nodes slot was used in
    let now : length (set nodes slot (Some node)) ≡ length nodes = length-set nodes slot (Some node) in
    let before : one_if_used (get_or nodes slot None) ≡ 1 = ap one_if_used used in
    let count : count_by is_some (set nodes slot (Some node)) + one_if_used (get_or nodes slot None) ≡ count_by is_some nodes + 1 = count-set nodes slot (Some node) inside in
    let all : count_by is_some nodes + length free ≡ length nodes = tracks.counted in
    record {
      each_free =
          λ k lt.
          let other : get_or free k 0 ≢ slot = λ e. no_longer nodes was slot used (ap (λ i. get_or nodes i None) (sym e) ∙ tracks.each_free k lt) in
          get_or-set_other nodes slot (get_or free k 0) (Some node) None other ∙ tracks.each_free k lt;
      in_range = λ k lt. let old : get_or free k 0 < length nodes = tracks.in_range k lt in omega arith;
      each_once = tracks.each_once;
      counted = omega arith;
      has_room = let old : length nodes ≤ room = tracks.has_room in omega arith;
      untouched =
          λ k past.
          let other : k ≢ slot = λ e. no_longer nodes was slot used (ap (λ i. get_or nodes i None) (sym e) ∙ tracks.untouched k past) in
          get_or-set_other nodes slot k (Some node) None other ∙ tracks.untouched k past;
      within = let old : extent ≤ length nodes = tracks.within in omega arith;
      small = let old : length nodes < 65536 = tracks.small in omega arith;
    }

-- ---- all slots are free

abbrev vacant : Option Node
vacant = None

-- ---- one more number, counting down

pub counts_down-push : (numbers : List ℕ) (limit n : ℕ) → n < limit → CountsDown numbers limit n → CountsDown (numbers ++ (limit - 1 - n) ∷ []) limit (n + 1)
counts_down-push numbers limit n lt falls =
    let len : length numbers ≡ n = falls.length_is in
    let now : length (numbers ++ (limit - 1 - n) ∷ []) ≡ length numbers + 1 = length_push numbers (limit - 1 - n) in
    record {
      length_is = omega arith;
      each =
          λ k below.
          ⊎_elim
          (λ (before : k < n).
          let is : get_or (numbers ++ (limit - 1 - n) ∷ []) k 0 ≡ get_or numbers k 0 = get_or_append_left numbers ((limit - 1 - n) ∷ []) 0 k (omega arith) in
          let old : get_or numbers k 0 + k + 1 ≡ limit = falls.each k before in
          omega arith)
          (λ (last : n ≤ k).
          let at : k ≡ n = omega arith in
          let is : get_or (numbers ++ (limit - 1 - n) ∷ []) k 0 ≡ limit - 1 - n = get_or_push numbers (limit - 1 - n) 0 k (len ∙ sym at) in
          omega arith)
          (cases_lt k n);
    }

pub counts_down-none : (limit : ℕ) → CountsDown [] limit 0
counts_down-none limit = record { length_is = refl; each = λ k below. absurd (omega arith) }

-- ---- how many slots are in use afterwards

pub used-freed : (slots : Slots) (slot : ℕ) → IsTrue (is_used slots slot) → used_in (with_node slots slot None) + 1 ≡ used_in slots
used-freed slots slot used =
    let node = node_of_used (node_in slots slot) used in
    let before : one_if_used (get_or slots.nodes slot None) ≡ 1 = ap one_if_used node.1 in
    let count : count_by is_some (set slots.nodes slot None) + one_if_used (get_or slots.nodes slot None) ≡ count_by is_some slots.nodes + 0 = count-set slots.nodes slot None (in_range slots.nodes slot node.0 node.1) in
    omega arith
