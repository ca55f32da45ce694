-- How the latest of the earliest nodes is found, one thread after another.
use Rattle.std.proofs.Common.{◌≡◌, ℕ, ◌+◌, ◌<◌, ◌≤◌, Bool, true, false, List, length, Option, Some, None, refl, sym, ap, ◌∙◌, subst, ⊎_elim, inl, inr, arith}
use Rattle.std.specs.Prelude.{◌⊎◌, nat_le, IsTrue, IsSomeAnd, if◌then◌else◌}
use Rattle.std.proofs.lemmas.Bool.{cases_eq, cases_lt, both_ways, false≢true, leb-true, leb-false}
use Rattle.std.proofs.lemmas.List.{get_or_past}
use Rattle.velo_events.specs.declared.limits.TheConstants.{MAX_THREADS}
use Rattle.velo_events.specs.declared.event.Event.{Event}
use Rattle.velo_arena.specs.Slots.{node_in, stamp_in, limit_of}
use Rattle.velo_graph.specs.Nodes.{Nodes}
use Rattle.velo_graph.proofs.OnNodes.{used_in_range}
use Rattle.velo_graph.proofs.OnCollecting.{used_of_finished}
use Rattle.velo_monitor.specs.Heirs.{going_in, is_reached, first_in, later_of, IsLatest, Stays}

module _ (nodes : Nodes) where
  abbrev stamp : ℕ → ℕ
  stamp k = stamp_in nodes.slots k

  -- ---- the later of two

  later-among : (o c : Option ℕ) (h : ℕ) → later_of nodes o c ≡ Some h → (o ≡ Some h) ⊎ (c ≡ Some h)
  later-among o None h is = inl is
  later-among None (Some r) h is = inr is
  later-among (Some g) (Some r) h is = by (nat_le (stamp g) (stamp r)) is
    where
      by : (b : Bool) → (if b then Some r else Some g) ≡ Some h → (Some g ≡ Some h) ⊎ (Some r ≡ Some h)
      by true same = inr same
      by false same = inl same

  later-new : (o : Option ℕ) (r : ℕ) → IsSomeAnd (later_of nodes o (Some r)) (λ h. stamp r ≤ stamp h)
  later-new None r = omega arith
  later-new (Some g) r = by (nat_le (stamp g) (stamp r)) refl
    where
      by : (b : Bool) → nat_le (stamp g) (stamp r) ≡ b → IsSomeAnd (if b then Some r else Some g) (λ h. stamp r ≤ stamp h)
      by true is = omega arith
      by false is = let l : stamp r < stamp g = leb-false (stamp g) (stamp r) is in omega (arith, l)

  later-old : (o c : Option ℕ) (z : ℕ) → IsSomeAnd o (λ h. z ≤ stamp h) → IsSomeAnd (later_of nodes o c) (λ h. z ≤ stamp h)
  later-old o None z old = old
  later-old None (Some r) z old = absurd old
  later-old (Some g) (Some r) z old = by (nat_le (stamp g) (stamp r)) refl
    where
      by : (b : Bool) → nat_le (stamp g) (stamp r) ≡ b → IsSomeAnd (if b then Some r else Some g) (λ h. z ≤ stamp h)
      by true is = let l : stamp g ≤ stamp r = leb-true (stamp g) (stamp r) is in omega (arith, l, old)
      by false is = old

  -- ---- one thread after another

  module _ (going firsts : List (Option ℕ)) (t k : ℕ) where
    pub latest-none : IsLatest nodes going firsts t k 0 None
    latest-none = record { among = λ h is. absurd (no h is); above = λ s r l. absurd (omega (arith, l)) }
      where
        no : (h : ℕ) → None ≡ Some h → ⊥
        no h is = cc

    pub latest-step : (s : ℕ) (o : Option ℕ) → s < MAX_THREADS → IsTrue (is_reached nodes (going_in going s) k) → IsLatest nodes going firsts t k s o → IsLatest nodes going firsts t k (s + 1) (later_of nodes o (first_in firsts t s))
    latest-step s o small reached so_far = record {
      among = λ h is. ⊎_elim (λ (old : o ≡ Some h). so_far.among h old) (λ (new : first_in firsts t s ≡ Some h). (s, small, reached, new)) (later-among o (first_in firsts t s) h is);
      above = λ v r l is there. ⊎_elim
          (λ (here : v ≡ s).
          subst (λ c. IsSomeAnd (later_of nodes o c) (λ h. stamp r ≤ stamp h)) (sym (ap (first_in firsts t) (sym here) ∙ there)) (later-new o r))
          (λ (other : v ≡ s → ⊥). later-old o (first_in firsts t s) (stamp r) (so_far.above v r (omega (arith, l, other)) is there))
          (cases_eq v s);
    }

    pub latest-stay : (s : ℕ) (o : Option ℕ) → is_reached nodes (going_in going s) k ≡ false → IsLatest nodes going firsts t k s o → IsLatest nodes going firsts t k (s + 1) o
    latest-stay s o out so_far = record {
      among = so_far.among;
      above = λ v r l is there. so_far.above v r (⊎_elim (λ (here : v ≡ s). absurd (both_ways (is_reached nodes (going_in going s) k) out (ap (λ z. is_reached nodes (going_in going z) k) (sym here) ∙ is))) (λ (other : v ≡ s → ⊥). omega (arith, l, other)) (cases_eq v s)) is there;
    }

    -- no thread past the last one has an unfinished node
    pub latest-rest : (m : ℕ) (o : Option ℕ) → length going ≤ m → IsLatest nodes going firsts t k m o → IsLatest nodes going firsts t k MAX_THREADS o
    latest-rest m o past so_far = record {
      among = so_far.among;
      above = λ v r l is there. ⊎_elim (λ (low : v < m). so_far.above v r low is there)
          (λ (high : m ≤ v). absurd (false≢true (sym (ap (λ g. is_reached nodes g k) (get_or_past going v None (omega (arith, past, high)))) ∙ is)))
          (cases_lt v m);
    }

-- past the last slot is no node
pub stays-past : (nodes : Nodes) (events : List Event) (going firsts : List (Option ℕ)) (k : ℕ) → limit_of nodes.slots ≤ k → Stays nodes events going firsts k
stays-past nodes events going firsts k past = record {
  latest = None;
  is = λ done. absurd (omega (arith, past, used_in_range nodes.slots k (used_of_finished (node_in nodes.slots k) done)));
  itself = λ h is. absurd (no h is);
}
  where
    no : (h : ℕ) → None ≡ Some h → ⊥
    no h is = cc
