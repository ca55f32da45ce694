-- The first closing event of a log: none before it closes a cycle, and a cycle passes its transaction.
use Rattle.std.proofs.Common.{◌≡◌, ℕ, zero, suc, ◌+◌, List, [], ◌∷◌, ◌++◌, take, drop, Some, refl, sym, ap, ◌∙◌, subst, arith, inl, inr, ⊎_elim, length, length-take}
use Rattle.std.proofs.lemmas.List.{take-append-drop}
use Rattle.std.specs.Prelude.{◌⊎◌, slice_get, Contains}
use Rattle.velo_events.specs.declared.event.Event.{Event}
use Rattle.velo_events.specs.Block.{owner}
use Rattle.velo_events.specs.Graph.{HasCycle, IsClosing, IsCycle, Edge, Leads, Reaches}
use Rattle.velo_events.proofs.OnBlocks.{owner-append}
use Rattle.velo_events.proofs.OnGraphs.{HasCycle-push, Edge-append, Path-map, newest}
use Rattle.velo_events.proofs.OnReaching.{IsCycle-by}
use Rattle.velo_events.proofs.OnScans.{event_at, take-next}
use Rattle.velo_certify.specs.Cycle.{HasNoCycleAt}

-- before the first closing event there is no cycle
pub no_cycle_before : (log : List Event) (p : ℕ) → IsClosing log p → ¬ HasCycle (take p log)
no_cycle_before log p closing = before p refl
  where
    no_edge : (cycle : List ℕ) → IsCycle (Edge []) cycle → ⊥
    no_edge [] h = h
    no_edge (a ∷ []) h = h
    no_edge (a ∷ b ∷ []) h = (let l = h.0.in_trace in omega (arith, l))
    no_edge (a ∷ b ∷ c ∷ cs) h = (let l = h.0.in_trace in omega (arith, l))

    before : (q : ℕ) → q ≡ p → HasCycle (take q log) → ⊥
    before zero at c = no_edge c.cycle c.is_cycle
    before (suc q) at c = closing.least q (omega (arith, at)) (subst (λ k. HasCycle (take k log)) (let more : suc q ≡ q + 1 = omega arith in more) c)

-- at the first closing event a cycle passes the transaction
pub closing_cycle : (log : List Event) (p : ℕ) → IsClosing log p → HasNoCycleAt log p → ⊥
closing_cycle log p closing none = around (HasCycle-push before e.0 (subst HasCycle next closing.closes))
  where
    before : List Event
    before = take p log

    e : (event : Event) × (slice_get log p ≡ Some event)
    e = event_at log p closing.in_trace

    next : take (p + 1) log ≡ before ++ e.0 ∷ []
    next = take-next log p e.0 e.1

    New : ℕ → ℕ → Type 0
    New = Edge (before ++ e.0 ∷ [])

    n : ℕ
    n = newest before e.0

    is_n : owner log p ≡ n
    is_n =
        ap (λ (xs : List Event). owner xs p) (sym (take-append-drop (p + 1) log))
        ∙ (owner-append (take (p + 1) log) (drop (p + 1) log) p (let l = closing.in_trace in omega (arith, l, length-take (p + 1) log))
        ∙ (ap (λ (xs : List Event). owner xs p) next ∙ ap (owner (before ++ e.0 ∷ [])) (let l = closing.in_trace in let here : p ≡ length before = omega (arith, l, length-take p log) in here)))

    makes : (x : ℕ) → Leads (Edge before) n x → New x n → ⊥
    makes x there edge =
        let made = IsCycle-by New n x (there.0, Path-map (Edge before) New (Edge-append before (e.0 ∷ [])) n there.0 x there.1) ([], edge) in
        none.none made.0 (subst (λ (xs : List Event). IsCycle (Edge xs) made.0) (sym next) made.1) (subst (Contains made.0) (sym is_n) made.2)

    around : HasCycle before ⊎ ((x : ℕ) × Reaches (Edge before) n x × New x n) → ⊥
    around (inl c) = no_cycle_before log p closing c
    around (inr w) = ⊎_elim (λ at. w.2.differ (sym at)) (λ there. makes w.0 there w.2) w.1
