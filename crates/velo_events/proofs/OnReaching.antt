-- Which transactions reach which: cycles as transactions that reach one another, and what an appended event adds.
use Rattle.std.proofs.Common.{◌≡◌, ◌≢◌, ℕ, zero, suc, ◌<◌, ◌≤◌, List, [], ◌∷◌, ◌++◌, length, refl, sym, ap, ◌∙◌, subst, arith, ⊎_elim, inl, inr}
use Rattle.std.specs.Prelude.{◌⊎◌, ◌↔◌, slice_index_or, IsTrue, Contains}
use Rattle.std.proofs.lemmas.List.{length_push}
use Rattle.std.proofs.lemmas.List.Elements.{Contains-append_right}
use Rattle.std.proofs.lemmas.Bool.{cases_lt}
use Rattle.velo_events.specs.declared.event.Event.{Event}
use Rattle.velo_events.specs.Block.{owner, IsTransaction}
use Rattle.velo_events.specs.Graph.{Path, Leads, Reaches, IsCycle, conflict_at, Edge, HasCycle}
use Rattle.velo_events.proofs.OnBlocks.{owner-append}
use Rattle.velo_events.proofs.OnGraphs.{Reaches-trans, Reaches-map, Path-append, Edge-append, Edge-before, newest, HasCycle-push}
use Rattle.velo_events.proofs.OnUnfinished.{IsTransaction-owner}

-- ---- cycles of any relation

-- a path leads to each number on it, and from there by a next one to its end
Path-at : (R : ℕ → ℕ → Type 0) (x : ℕ) (between : List ℕ) (y a k : ℕ) → Path R x between y → k < length between → slice_index_or between k a ≡ a → (b : ℕ) × R a b × Reaches R b y × Reaches R x a
Path-at R x [] y a k p l e = absurd (omega arith)
Path-at R x (c ∷ []) y a zero p l e = (y, subst (λ z. R z y) e p.1, inl refl, inr ([], subst (λ z. R x z) e p.0))
Path-at R x (c ∷ d ∷ ds) y a zero p l e = (d, subst (λ z. R z d) e p.1.0, inr (ds, p.1.1), inr ([], subst (λ z. R x z) e p.0))
Path-at R x (c ∷ cs) y a (suc k) p l e =
    let w = Path-at R c cs y a k p.1 (omega arith) e in
    (w.0, w.1, w.2, Reaches-trans R x c a (inr ([], p.0)) w.3)

-- a number on a cycle has a next one, from which the cycle leads back to it
pub IsCycle-next : (R : ℕ → ℕ → Type 0) (cycle : List ℕ) (a : ℕ) → IsCycle R cycle → Contains cycle a → (b : ℕ) × R a b × Reaches R b a
IsCycle-next R [] a h w = absurd h
IsCycle-next R (c ∷ []) a h w = absurd h
IsCycle-next R (c ∷ d ∷ rest) a h w = at w.0 w.1 w.2
  where
    at : (k : ℕ) → k < length (c ∷ d ∷ rest) → slice_index_or (c ∷ d ∷ rest) k a ≡ a → (b : ℕ) × R a b × Reaches R b a
    at zero l e = (d, subst (λ z. R z d) e h.0, subst (λ z. Reaches R d z) e (inr (rest, h.1)))
    at (suc k) l e =
        let v = Path-at R c (d ∷ rest) c a k h (omega arith) e in
        (v.0, v.1, Reaches-trans R v.0 c a v.2 v.3)

-- two paths, there and back, make a cycle that contains both ends
pub IsCycle-by : (R : ℕ → ℕ → Type 0) (a b : ℕ) → Leads R a b → Leads R b a → (cycle : List ℕ) × IsCycle R cycle × Contains cycle a × Contains cycle b
IsCycle-by R a b there back = make there.0 there.1
  where
    make : (between : List ℕ) → Path R a between b → (cycle : List ℕ) × IsCycle R cycle × Contains cycle a × Contains cycle b
    make [] p = (a ∷ b ∷ back.0, (p, back.1), (0, omega arith, refl), (1, omega arith, refl))
    make (c ∷ cs) p = (
      a ∷ (c ∷ cs) ++ b ∷ back.0,
      Path-append R a (c ∷ cs) b back.0 a p back.1,
      (0, omega arith, refl),
      Contains-append_right (a ∷ c ∷ cs) (b ∷ back.0) b (0, omega arith, refl),
    )

-- ---- the cycles of a trace

-- a transaction reaches another one that reaches it
pub record IsOnCycle (trace : List Event) (a : ℕ) : Type 0 where
  pub other : ℕ
  pub differ : a ≢ other
  pub there : Reaches (Edge trace) a other
  pub back : Reaches (Edge trace) other a

-- what a cycle contains is on one
pub IsOnCycle-from_cycle : (trace : List Event) (cycle : List ℕ) (a : ℕ) → IsCycle (Edge trace) cycle → Contains cycle a → IsOnCycle trace a
IsOnCycle-from_cycle trace cycle a h w =
    let next = IsCycle-next (Edge trace) cycle a h w in
    record { other = next.0; differ = next.1.differ; there = inr ([], next.1); back = next.2 }

-- and what is on a cycle is contained in one
pub IsOnCycle-cycle : (trace : List Event) (a b : ℕ) → a ≢ b → Reaches (Edge trace) a b → Reaches (Edge trace) b a → (cycle : List ℕ) × IsCycle (Edge trace) cycle × Contains cycle a × Contains cycle b
IsOnCycle-cycle trace a b differ there back =
    ⊎_elim (λ at. absurd (differ at)) (λ p. ⊎_elim (λ at. absurd (differ (sym at))) (λ q. IsCycle-by (Edge trace) a b p q) back) there

-- a transaction on a cycle makes one
pub HasCycle-from_on : (trace : List Event) (a : ℕ) → IsOnCycle trace a → HasCycle trace
HasCycle-from_on trace a w = let c = IsOnCycle-cycle trace a w.other w.differ w.there w.back in record { cycle = c.0; is_cycle = c.1 }

-- ---- what reaches is in the trace

Edge-from_within : (trace : List Event) (a b : ℕ) → Edge trace a b → IsTransaction trace a
Edge-from_within trace a b e = subst (IsTransaction trace) e.of_from (IsTransaction-owner trace e.from (omega (arith, e.in_order, e.in_trace)))

Edge-to_within : (trace : List Event) (a b : ℕ) → Edge trace a b → IsTransaction trace b
Edge-to_within trace a b e = subst (IsTransaction trace) e.of_to (IsTransaction-owner trace e.to e.in_trace)

Path-from_within : (trace : List Event) (a : ℕ) (between : List ℕ) (b : ℕ) → Path (Edge trace) a between b → IsTransaction trace a
Path-from_within trace a [] b p = Edge-from_within trace a b p
Path-from_within trace a (c ∷ cs) b p = Edge-from_within trace a c p.0

Path-to_within : (trace : List Event) (a : ℕ) (between : List ℕ) (b : ℕ) → Path (Edge trace) a between b → IsTransaction trace b
Path-to_within trace a [] b p = Edge-to_within trace a b p
Path-to_within trace a (c ∷ cs) b p = Path-to_within trace c cs b p.1

-- what a transaction reaches is one
pub Reaches-to_transaction : (trace : List Event) (a b : ℕ) → IsTransaction trace a → Reaches (Edge trace) a b → IsTransaction trace b
Reaches-to_transaction trace a b t r = ⊎_elim (λ at. subst (IsTransaction trace) at t) (λ p. Path-to_within trace a p.0 b p.1) r

-- and what reaches a transaction is one
pub Reaches-from_transaction : (trace : List Event) (a b : ℕ) → IsTransaction trace b → Reaches (Edge trace) a b → IsTransaction trace a
Reaches-from_transaction trace a b t r = ⊎_elim (λ at. subst (IsTransaction trace) (sym at) t) (λ p. Path-from_within trace a p.0 b p.1) r

-- what is not in the trace reaches itself alone
pub Reaches-from_absent : (trace : List Event) (a b : ℕ) → length trace ≤ a → Reaches (Edge trace) a b → a ≡ b
Reaches-from_absent trace a b absent r = ⊎_elim (λ at. at) (λ p. let t = (Path-from_within trace a p.0 b p.1).within in absurd (omega (arith, t, absent))) r

-- ---- what an appended event adds

-- an earlier operation of x, which is not the appended event's transaction, conflicts with the appended event
pub record IsPredecessor (trace : List Event) (event : Event) (x : ℕ) : Type 0 where
  pub at : ℕ
  pub before : at < length trace
  pub in_conflict : IsTrue (conflict_at (trace ++ event ∷ []) at (length trace))
  pub of : owner trace at ≡ x
  pub differ : x ≢ newest trace event

-- a reaches, in the trace without the event, a predecessor of the event, and the event's transaction reaches b there
pub record ReachesBy (trace : List Event) (event : Event) (a b : ℕ) : Type 0 where
  pub by : ℕ
  pub predecessor : IsPredecessor trace event by
  pub before : Reaches (Edge trace) a by
  pub after : Reaches (Edge trace) (newest trace event) b

module _ (trace : List Event) (event : Event) where
  -- a predecessor has an edge to the event's transaction
  pub IsPredecessor-edge : (x : ℕ) → IsPredecessor trace event x → Edge (trace ++ event ∷ []) x (newest trace event)
  IsPredecessor-edge x w = record {
    from = w.at;
    to = length trace;
    in_order = w.before;
    in_trace = omega (arith, length_push trace event);
    in_conflict = w.in_conflict;
    of_from = owner-append trace (event ∷ []) w.at w.before ∙ w.of;
    of_to = refl;
    differ = w.differ;
  }

  -- an edge was there, or leads from a predecessor into the event's transaction
  pub Edge-push_predecessor : (a b : ℕ) → Edge (trace ++ event ∷ []) a b → Edge trace a b ⊎ (IsPredecessor trace event a × (newest trace event ≡ b))
  Edge-push_predecessor a b e = ⊎_elim (λ h. inl (Edge-before trace (event ∷ []) a b e h)) (λ h. inr (new h)) (cases_lt e.to (length trace))
    where
      new : length trace ≤ e.to → IsPredecessor trace event a × (newest trace event ≡ b)
      new h =
          let last : e.to ≡ length trace = omega (arith, h, e.in_trace, length_push trace event) in
          let before : e.from < length trace = omega (arith, last, e.in_order) in
          let into : newest trace event ≡ b = ap (owner (trace ++ event ∷ [])) (sym last) ∙ e.of_to in (
            record {
              at = e.from;
              before = before;
              in_conflict = subst (λ k. IsTrue (conflict_at (trace ++ event ∷ []) e.from k)) last e.in_conflict;
              of = sym (owner-append trace (event ∷ []) e.from before) ∙ e.of_from;
              differ = λ same. e.differ (same ∙ into);
            },
            into,
          )

  -- what reached, reaches
  pub Reaches-old : (a b : ℕ) → Reaches (Edge trace) a b → Reaches (Edge (trace ++ event ∷ [])) a b
  Reaches-old a b r = Reaches-map (Edge trace) (Edge (trace ++ event ∷ [])) (Edge-append trace (event ∷ [])) a b r

  -- what reaches by way of the event, reaches
  pub Reaches-by : (a b : ℕ) → ReachesBy trace event a b → Reaches (Edge (trace ++ event ∷ [])) a b
  Reaches-by a b w =
      Reaches-trans (Edge (trace ++ event ∷ [])) a w.by b (Reaches-old a w.by w.before)
      (Reaches-trans (Edge (trace ++ event ∷ [])) w.by (newest trace event) b (inr ([], IsPredecessor-edge w.by w.predecessor)) (Reaches-old (newest trace event) b w.after))

  Path-push : (a : ℕ) (between : List ℕ) (b : ℕ) → Path (Edge (trace ++ event ∷ [])) a between b → Reaches (Edge trace) a b ⊎ ReachesBy trace event a b
  Path-push a [] b p =
      ⊎_elim (λ old. inl (inr ([], old))) (λ new. inr (record { by = a; predecessor = new.0; before = inl refl; after = inl new.1 })) (Edge-push_predecessor a b p)
  Path-push a (c ∷ cs) b p = first (Path-push c cs b p.1) (Edge-push_predecessor a c p.0)
    where
      first : Reaches (Edge trace) c b ⊎ ReachesBy trace event c b → Edge trace a c ⊎ (IsPredecessor trace event a × (newest trace event ≡ c)) → Reaches (Edge trace) a b ⊎ ReachesBy trace event a b
      first rest edge = ⊎_elim
          (λ old. ⊎_elim (λ r. inl (Reaches-trans (Edge trace) a c b (inr ([], old)) r))
          (λ w. inr (record { by = w.by; predecessor = w.predecessor; before = Reaches-trans (Edge trace) a c w.by (inr ([], old)) w.before; after = w.after })) rest)
          (λ new. inr (record {
            by = a;
            predecessor = new.0;
            before = inl refl;
            after = ⊎_elim (λ r. Reaches-trans (Edge trace) (newest trace event) c b (inl new.1) r) (λ w. w.after) rest;
          })) edge

  -- with one more event a reaches b exactly where it did before, or it reached a predecessor of the event, and the event's
  -- transaction is b or reached it
  pub Reaches-push : (a b : ℕ) → Reaches (Edge (trace ++ event ∷ [])) a b → Reaches (Edge trace) a b ⊎ ReachesBy trace event a b
  Reaches-push a b r = ⊎_elim (λ at. inl (inl at)) (λ p. Path-push a p.0 b p.1) r

  -- both ways in one
  pub Reaches-push_law : (a b : ℕ) → Reaches (Edge (trace ++ event ∷ [])) a b ↔ (Reaches (Edge trace) a b ⊎ ReachesBy trace event a b)
  Reaches-push_law a b = (Reaches-push a b, λ r. ⊎_elim (Reaches-old a b) (Reaches-by a b) r)

  -- where the event begins its transaction, nothing changes among the others, and this one reaches none of them
  pub Reaches-push_alone : (a b : ℕ) → newest trace event ≡ length trace → b < length trace → Reaches (Edge (trace ++ event ∷ [])) a b → Reaches (Edge trace) a b
  Reaches-push_alone a b alone l r = ⊎_elim (λ old. old)
      (λ w. let at = Reaches-from_absent trace (newest trace event) b (omega (arith, alone)) w.after in absurd (omega (arith, at, alone, l)))
      (Reaches-push a b r)

  -- an appended event that begins its transaction closes no cycle
  pub HasCycle-push_alone : newest trace event ≡ length trace → HasCycle (trace ++ event ∷ []) → HasCycle trace
  HasCycle-push_alone alone c = ⊎_elim (λ old. old)
      (λ w. absurd (w.2.differ (sym (Reaches-from_absent trace (newest trace event) w.0 (omega (arith, alone)) w.1))))
      (HasCycle-push trace event c)

  -- where it closes a cycle, its transaction reached one of its predecessors
  pub HasCycle-push_predecessor : HasCycle (trace ++ event ∷ []) → HasCycle trace ⊎ ((x : ℕ) × IsPredecessor trace event x × Reaches (Edge trace) (newest trace event) x)
  HasCycle-push_predecessor c = ⊎_elim (λ old. inl old)
      (λ w. ⊎_elim
      (λ edge. inl (HasCycle-from_on trace (newest trace event) (record { other = w.0; differ = (λ same. edge.differ (sym same)); there = w.1; back = inr ([], edge) })))
      (λ new. inr (w.0, new.0, w.1)) (Edge-push_predecessor w.0 (newest trace event) w.2))
      (HasCycle-push trace event c)
