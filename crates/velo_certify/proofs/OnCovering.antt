-- Links that stand for others, and the numbers by which they are known.
use Rattle.std.proofs.Common.{◌≡◌, ◌≢◌, ℕ, ◌+◌, ◌-◌, ◌<◌, ◌≤◌, List, length, set, refl, sym, ap, ◌∙◌, subst, arith, ⊎_elim, inl, inr}
use Rattle.std.specs.Prelude.{slice_index, IsTrue}
use Rattle.std.proofs.lemmas.Bool.{cases_eq, cases_lt}
use Rattle.std.proofs.lemmas.List.{length-set, get_or-set_same, get_or-set_other, get_or_past}
use Rattle.velo_events.specs.declared.event.Event.{Event}
use Rattle.velo_events.specs.Block.{owner}
use Rattle.velo_events.specs.Graph.{conflict_at, Edge}
use Rattle.velo_certify.specs.declared.chains.Links.{Links}
use Rattle.velo_certify.specs.Links.{IsInList, IsGrown, IsKept, pair_at, IsBefore, IsBehind, AreShown, IsLinked, HasRows}
use Rattle.velo_traces.specs.Numbers.{IsBlank}
use Rattle.velo_certify.specs.Threads.{thread_at}
use Rattle.velo_certify.proofs.OnChains.{IsAdded}
use Rattle.velo_certify.proofs.OnLinks.{IsGrown-same, IsInList-grown, edge-into}
use Rattle.velo_certify.proofs.OnThreads.{one-thread}

-- ---- what is known

pub AreShown-none : (trace : List Event) (bound : ℕ → ℕ → ℕ → Type 0) (l : Links) (known : List ℕ) → length known ≡ 65536 → IsBlank known → AreShown trace bound l known
AreShown-none trace bound l known count blank = record {
  count = count;
  each = λ p some. absurd (⊎_elim (λ inside. let none = blank.each p inside in omega (arith, some, none)) (λ past. let none = get_or_past known p 0 past in omega (arith, some, none)) (cases_lt p (length known)));
}

module _ (trace : List Event) (bound next : ℕ → ℕ → ℕ → Type 0) (weaker : (k i j : ℕ) → bound k i j → next k i j) (old new : Links) (grown : IsGrown trace old new) (known : List ℕ) (w : AreShown trace bound old known) where
  pub AreShown-more : AreShown trace next new known
  AreShown-more = record {
    count = w.count;
    each = λ p some.
        let s = w.each p some in
        record {
          from = s.from;
          to = s.to;
          from_there = s.from_there;
          to_there = s.to_there;
          pair = s.pair;
          small = s.small;
          number = weaker (slice_index known p) s.from s.to s.number;
          edge = s.edge;
          listed = IsInList-grown trace old new grown (owner trace s.to) (owner trace s.from) s.listed;
        };
  }

module _ (trace : List Event) (bound : ℕ → ℕ → ℕ → Type 0) (l : Links) (known : List ℕ) (w : AreShown trace bound l known) (from to number : ℕ) (from_there : from < length trace) (to_there : to < length trace) (small : thread_at trace from < 256) where
  AreShown-set : pair_at trace from to < 65536 → bound number from to → Edge trace (owner trace from) (owner trace to) → IsInList l (owner trace to) (owner trace from) → AreShown trace bound l (set known (pair_at trace from to) number)
  AreShown-set inside is edge listed = record {
    count = length-set known (pair_at trace from to) number ∙ w.count;
    each = λ p some. ⊎_elim
        (λ same.
        let there : slice_index (set known (pair_at trace from to) number) p ≡ number = ap (slice_index (set known (pair_at trace from to) number)) same ∙ get_or-set_same known (pair_at trace from to) number 0 (let c = w.count in omega (arith, inside, c)) in
        record {
          from = from;
          to = to;
          from_there = from_there;
          to_there = to_there;
          pair = sym same;
          small = small;
          number = subst (λ k. bound k from to) (sym there) is;
          edge = edge;
          listed = listed;
        })
        (λ other.
        let there : slice_index (set known (pair_at trace from to) number) p ≡ slice_index known p = get_or-set_other known (pair_at trace from to) p number 0 other in
        let s = w.each p (omega (arith, some, there)) in
        record {
          from = s.from;
          to = s.to;
          from_there = s.from_there;
          to_there = s.to_there;
          pair = s.pair;
          small = s.small;
          number = subst (λ k. bound k s.from s.to) (sym there) s.number;
          edge = s.edge;
          listed = s.listed;
        })
        (cases_eq p (pair_at trace from to));
  }

  -- a known link that is as good stands for it
  IsKept-shown : ((k i j : ℕ) → number ≤ k → bound k i j → j < length trace → (from ≤ i) × (j ≤ to)) → 0 < number → number ≤ slice_index known (pair_at trace from to) → IsKept trace l from to
  IsKept-shown as_good some most =
      let s = w.each (pair_at trace from to) (omega (arith, some, most)) in
      let good = as_good (slice_index known (pair_at trace from to)) s.from s.to most s.number s.to_there in
      let pair = s.pair in
      let its = s.small in
      inr (record {
        from = s.from;
        to = s.to;
        from_there = s.from_there;
        to_there = s.to_there;
        later = good.0;
        of_from = omega (arith, pair, its, small);
        earlier = good.1;
        of_to = omega (arith, pair, its, small);
        edge = s.edge;
        listed = s.listed;
      })

-- ---- one link

module _ (trace : List Event) (from to number : ℕ) (before : from < to) (within : to < length trace) where
  later : (k i j : ℕ) → IsBefore to k i j → IsBefore (to + 1) k i j
  later k i j h = (h.0, omega (arith, h.1))

  earlier : (k i j : ℕ) → IsBehind trace (from + 1) k i j → IsBehind trace from k i j
  earlier k i j h = (h.0, omega (arith, h.1))

  -- nothing is done where it is kept
  linked-kept : (l : Links) (known : List ℕ) → ((number ≡ from + 1) → AreShown trace (IsBefore to) l known → IsKept trace l from to) → ((number ≡ length trace - to) → AreShown trace (IsBehind trace (from + 1)) l known → IsKept trace l from to) → IsLinked trace from to number known known l l
  linked-kept l known forward backward = record {
    grown = IsGrown-same trace l;
    forward = λ is w. (AreShown-more trace (IsBefore to) (IsBefore (to + 1)) later l l (IsGrown-same trace l) known w, forward is w);
    backward = λ is w. (AreShown-more trace (IsBehind trace (from + 1)) (IsBehind trace from) earlier l l (IsGrown-same trace l) known w, backward is w);
  }

  pub IsLinked-own : (l : Links) (known : List ℕ) → thread_at trace from ≡ thread_at trace to → IsLinked trace from to number known known l l
  IsLinked-own l known same = linked-kept l known (λ is w. inl same) (λ is w. inl same)

  module _ (small : thread_at trace from < 256) where
    here : from < length trace
    here = omega (arith, before, within)

    pub IsLinked-known : (l : Links) (known : List ℕ) → 0 < number → number ≤ slice_index known (pair_at trace from to) → IsLinked trace from to number known known l l
    IsLinked-known l known some most = linked-kept l known
        (λ is w. IsKept-shown trace (IsBefore to) l known w from to number here within small (λ k i j up h there. (let k_is = h.0 in omega (arith, up, k_is, is), let l = h.1 in omega (arith, l))) some most)
        (λ is w. IsKept-shown trace (IsBehind trace (from + 1)) l known w from to number here within small (λ k i j up h there. (let l = h.1 in omega (arith, l), let k_is = h.0 in omega (arith, up, k_is, is, there, within))) some most)

    module _ (clash : IsTrue (conflict_at trace from to)) (other : thread_at trace from ≢ thread_at trace to) (old new : Links) (added : IsAdded old new (owner trace from) (owner trace to)) where
      edge : Edge trace (owner trace from) (owner trace to)
      edge = edge-into trace to within from before clash (owner trace to) (owner trace from) refl refl
          (λ same. other (sym (one-thread trace from here) ∙ (ap (thread_at trace) same ∙ one-thread trace to within)))

      grown : IsGrown trace old new
      grown = record {
        count = added.count;
        each = λ a xs chain.
            let g = added.grown a xs chain in
            (g.0, g.1, g.2, λ b h. ⊎_elim (λ was. inl was) (λ k. inr (subst (λ c. Edge trace c a) (sym k.0) (subst (Edge trace (owner trace from)) (sym k.1) edge))) (g.3 b h));
      }

      pub IsLinked-added : HasRows trace old → owner trace to < length trace → pair_at trace from to < 65536 → (known : List ℕ) → IsLinked trace from to number known (set known (pair_at trace from to) number) old new
      IsLinked-added rows there inside known = record {
        grown = grown;
        forward = λ is w. (
          AreShown-set trace (IsBefore (to + 1)) new known (AreShown-more trace (IsBefore to) (IsBefore (to + 1)) later old new grown known w) from to number here within small inside (is, omega arith) edge listed,
          kept,
        );
        backward = λ is w. (
          AreShown-set trace (IsBehind trace from) new known (AreShown-more trace (IsBehind trace (from + 1)) (IsBehind trace from) earlier old new grown known w) from to number here within small inside (is, omega arith) edge listed,
          kept,
        );
      }
        where
          listed : IsInList new (owner trace to) (owner trace from)
          listed = let r = rows.each (owner trace to) there in let g = added.grown (owner trace to) r.xs r.list in (g.0, g.1, g.4 refl)

          kept : IsKept trace new from to
          kept = inr (record {
            from = from;
            to = to;
            from_there = here;
            to_there = within;
            later = omega arith;
            of_from = refl;
            earlier = omega arith;
            of_to = refl;
            edge = edge;
            listed = listed;
          })
