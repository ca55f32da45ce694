-- Ways to a transaction, and the numbers of the transactions on them.
use Rattle.std.proofs.Common.{ℕ, ◌+◌, ◌<◌, ◌≤◌, List, [], ◌∷◌, length, arith, ⊎_elim, inl, inr}
use Rattle.std.specs.Prelude.{◌⊎◌, slice_index}
use Rattle.std.proofs.lemmas.Bool.{cases_lt}
use Rattle.std.proofs.lemmas.List.{get_or_past}
use Rattle.velo_events.specs.declared.event.Event.{Event}
use Rattle.velo_events.specs.Graph.{Path, Edge}
use Rattle.velo_certify.specs.declared.reached.Reached.{Reached}
use Rattle.velo_certify.specs.Distances.{AreShortest}
use Rattle.velo_certify.specs.Levels.{IsSearched}

pub reached-within : (distance : List ℕ) (a : ℕ) → 0 < slice_index distance a → a < length distance
reached-within distance a has = ⊎_elim (λ l. l) (λ g. absurd (let none = get_or_past distance a 0 g in omega (arith, has, none))) (cases_lt a (length distance))

module _ (trace : List Event) (target level : ℕ) (reached : Reached) (more : 1 < level) (w : IsSearched trace target level reached) where
  abbrev number : ℕ → ℕ
  number a = slice_index reached.distance.items a

  -- a way to the target is as long as its first number says, or longer, or the search ended below it
  pub IsSearched-path : (a : ℕ) (between : List ℕ) → Path (Edge trace) a between target → ((0 < number a) × (number a ≤ length between + 2)) ⊎ ((e : ℕ) × (level ≤ number e) × (level < length between + 2))
  IsSearched-path a [] p =
      let one = w.begins in
      let v = w.least a target p (omega (arith, one)) (omega (arith, one, more)) in
      inl (v.0, let most = v.1 in omega (arith, most, one))
  IsSearched-path a (c ∷ cs) p = ⊎_elim
      (λ near. ⊎_elim
      (λ below. let v = w.least a c p.0 near.0 below in inl (v.0, let most = v.1 in let next = near.1 in omega (arith, most, next)))
      (λ top. let next = near.1 in inr (c, top, omega (arith, top, next)))
      (cases_lt (number c) level))
      (λ far. let (e, top, long) = far in inr (e, top, omega (arith, long)))
      (IsSearched-path c cs p.1)

  -- the target has an edge to one that is nearer than the search went
  pub AreShortest-closed : (c : ℕ) → Edge trace target c → 0 < number c → number c < level → AreShortest trace target reached.distance.items
  AreShortest-closed c edge some near = record {
    count = w.long;
    begins = w.begins;
    least = λ b between e p. ⊎_elim (λ v. (b, e, v.0, v.1)) (λ v. let (_, _, long) = v in (c, edge, some, omega (arith, near, long))) (IsSearched-path b between p);
  }

  -- nothing has a number as great as the search went
  pub AreShortest-ended : ((a : ℕ) → number a < level) → AreShortest trace target reached.distance.items
  AreShortest-ended low = record {
    count = w.long;
    begins = w.begins;
    least = λ b between e p. ⊎_elim (λ v. (b, e, v.0, v.1)) (λ v. absurd (let (a, top, _) = v in let less = low a in omega (arith, top, less))) (IsSearched-path b between p);
  }
