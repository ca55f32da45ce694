-- Nodes in slots and their stamps, after a slot was written.
use Rattle.std.proofs.Common.{◌≡◌, ℕ, ◌<◌, ◌≤◌, Bool, true, List, length, get_or, set, Option, Some, None, sym, refl, ap, ◌∙◌, subst, ⊎_elim, arith, get_or-set_same, get_or-set_other, length-set}
use Rattle.std.specs.Prelude.{IsSomeAnd, IsTrue, is_some}
use Rattle.std.specs.Option.{ForSome}
use Rattle.std.proofs.lemmas.List.{get_or_past}
use Rattle.std.proofs.lemmas.Bool.{cases_eq, cases_lt, false≢true, eqb-true}
use Rattle.velo_arena.specs.declared.step.Node.{Node}
use Rattle.velo_arena.specs.Slots.{Slots, node_in, bears, has_stamp, HasOwnStamps, limit_of}

-- ---- a slot and what it bears

no_node : (o : Option Node) (n : Node) → o ≡ None → o ≡ Some n → ⊥
no_node o n none some = cc

pub same_node : (o : Option Node) (m n : Node) → o ≡ Some m → o ≡ Some n → m ≡ n
same_node o m n first second = cc

-- a node stands only in a slot that is there
pub in_range : (nodes : List (Option Node)) (slot : ℕ) (n : Node) → get_or nodes slot None ≡ Some n → slot < length nodes
in_range nodes slot n there =
    ⊎_elim (λ (lt : slot < length nodes). lt) (λ (past : length nodes ≤ slot). absurd (no_node _ n (get_or_past nodes slot None past) there)) (cases_lt slot (length nodes))

pub node_of_used : (o : Option Node) → IsTrue (is_some o) → (n : Node) × (o ≡ Some n)
node_of_used None used = absurd (false≢true used)
node_of_used (Some n) used = (n, refl)

pub node_of_stamp : (o : Option Node) (stamp : ℕ) → IsTrue (has_stamp o stamp) → (n : Node) × (o ≡ Some n) × (n.stamp ≡ stamp)
node_of_stamp None stamp borne = absurd (false≢true borne)
node_of_stamp (Some n) stamp borne = (n, refl, eqb-true n.stamp stamp borne)

-- a slot that was freed has no node, also where it was never there
pub freed : (nodes : List (Option Node)) (slot : ℕ) → get_or (set nodes slot None) slot None ≡ None
freed nodes slot =
    ⊎_elim (λ (lt : slot < length nodes). get_or-set_same nodes slot None None lt) (λ (past : length nodes ≤ slot). get_or_past (set nodes slot None) slot None (omega (arith, length-set nodes slot None))) (cases_lt slot (length nodes))

-- ---- stamps

below_newest : (newest : Option ℕ) (n stamp : ℕ) → IsSomeAnd newest (λ z. n ≤ z) → ForSome newest (λ z. z < stamp) → n < stamp
below_newest None n stamp within newer = absurd within
below_newest (Some z) n stamp within newer = let lt : z < stamp = newer z refl in omega arith

-- where each node has the stamp that stood there before, stamps stay apart
pub stamps-kept : (old new : Slots) → ((k : ℕ) (n : Node) → node_in new k ≡ Some n → (m : Node) × (node_in old k ≡ Some m) × (m.stamp ≡ n.stamp)) → new.newest ≡ old.newest → HasOwnStamps old → HasOwnStamps new
stamps-kept old new was newest own =
    record {
      apart =
          λ j k m n at_j at_k same.
          let a = was j m at_j in
          let b = was k n at_k in
          own.apart j k a.0 b.0 a.1 b.1 (a.2 ∙ same ∙ sym b.2);
      up_to_newest =
          λ k n there.
          let a = was k n there in
          subst (λ (z : Option ℕ). IsSomeAnd z (λ stamp. n.stamp ≤ stamp)) (sym newest) (subst (λ (s : ℕ). IsSomeAnd old.newest (λ stamp. s ≤ stamp)) a.2 (own.up_to_newest k a.0 a.1));
    }

-- a later stamp in a free slot
pub stamps-open : (old : Slots) (slot stamp : ℕ) (finished : Bool) → slot < limit_of old → ForSome old.newest (λ newest. newest < stamp) → HasOwnStamps old → HasOwnStamps (record { nodes = set old.nodes slot (Some (record { stamp = stamp; finished = finished })); newest = Some stamp })
stamps-open old slot stamp finished inside newer own =
    let here : (n : Node) → get_or (set old.nodes slot (Some (record { stamp = stamp; finished = finished }))) slot None ≡ Some n → n.stamp ≡ stamp = λ n there. ap (λ (m : Node). m.stamp) (same_node _ n (record { stamp = stamp; finished = finished }) there (get_or-set_same old.nodes slot (Some (record { stamp = stamp; finished = finished })) None inside)) in
    let there : (k : ℕ) (n : Node) → (k ≡ slot → ⊥) → get_or (set old.nodes slot (Some (record { stamp = stamp; finished = finished }))) k None ≡ Some n → get_or old.nodes k None ≡ Some n = λ k n other is. sym (get_or-set_other old.nodes slot k (Some (record { stamp = stamp; finished = finished })) None other) ∙ is in
    let earlier : (k : ℕ) (n : Node) → get_or old.nodes k None ≡ Some n → n.stamp < stamp = λ k n is. below_newest old.newest n.stamp stamp (own.up_to_newest k n is) newer in
    record {
      apart =
          λ j k m n at_j at_k same.
          ⊎_elim
          (λ (j_here : j ≡ slot).
          ⊎_elim
          (λ (k_here : k ≡ slot). j_here ∙ sym k_here)
          (λ (k_other : k ≡ slot → ⊥).
          let m_is : m.stamp ≡ stamp = here m (subst (λ (i : ℕ). get_or (set old.nodes slot (Some (record { stamp = stamp; finished = finished }))) i None ≡ Some m) j_here at_j) in
          absurd (omega (arith, earlier k n (there k n k_other at_k), m_is, same)))
          (cases_eq k slot))
          (λ (j_other : j ≡ slot → ⊥).
          ⊎_elim
          (λ (k_here : k ≡ slot).
          let n_is : n.stamp ≡ stamp = here n (subst (λ (i : ℕ). get_or (set old.nodes slot (Some (record { stamp = stamp; finished = finished }))) i None ≡ Some n) k_here at_k) in
          absurd (omega (arith, earlier j m (there j m j_other at_j), n_is, same)))
          (λ (k_other : k ≡ slot → ⊥). own.apart j k m n (there j m j_other at_j) (there k n k_other at_k) same)
          (cases_eq k slot))
          (cases_eq j slot);
      up_to_newest =
          λ k n is.
          ⊎_elim
          (λ (k_here : k ≡ slot).
          let n_is : n.stamp ≡ stamp = here n (subst (λ (i : ℕ). get_or (set old.nodes slot (Some (record { stamp = stamp; finished = finished }))) i None ≡ Some n) k_here is) in
          omega arith)
          (λ (k_other : k ≡ slot → ⊥). let lt : n.stamp < stamp = earlier k n (there k n k_other is) in omega arith)
          (cases_eq k slot);
    }

-- a slot in use finishes
pub stamps-finish : (old : Slots) (slot stamp : ℕ) → IsTrue (bears old slot stamp) → HasOwnStamps old → HasOwnStamps (record { nodes = set old.nodes slot (Some (record { stamp = stamp; finished = true })); newest = old.newest })
stamps-finish old slot stamp borne own =
    let was = node_of_stamp (node_in old slot) stamp borne in
    stamps-kept old (record { nodes = set old.nodes slot (Some (record { stamp = stamp; finished = true })); newest = old.newest }) (λ k n is.
    ⊎_elim
    (λ (here : k ≡ slot).
    let node : n ≡ record { stamp = stamp; finished = true } = same_node _ n (record { stamp = stamp; finished = true }) (subst (λ (i : ℕ). get_or (set old.nodes slot (Some (record { stamp = stamp; finished = true }))) i None ≡ Some n) here is) (get_or-set_same old.nodes slot (Some (record { stamp = stamp; finished = true })) None (in_range old.nodes slot was.0 was.1)) in
    (was.0, ap (λ i. get_or old.nodes i None) here ∙ was.1, was.2 ∙ sym (ap (λ (m : Node). m.stamp) node)))
    (λ (other : k ≡ slot → ⊥). (n, sym (get_or-set_other old.nodes slot k (Some (record { stamp = stamp; finished = true })) None other) ∙ is, refl))
    (cases_eq k slot)) refl own

-- a slot is freed
pub stamps-free : (old : Slots) (slot : ℕ) → HasOwnStamps old → HasOwnStamps (record { nodes = set old.nodes slot None; newest = old.newest })
stamps-free old slot own =
    stamps-kept old (record { nodes = set old.nodes slot None; newest = old.newest }) (λ k n is.
    ⊎_elim
    (λ (here : k ≡ slot). absurd (no_node _ n (freed old.nodes slot) (subst (λ (i : ℕ). get_or (set old.nodes slot None) i None ≡ Some n) here is)))
    (λ (other : k ≡ slot → ⊥). (n, sym (get_or-set_other old.nodes slot k None None other) ∙ is, refl))
    (cases_eq k slot)) refl own
