-- Ranks that rise along all conflicts show that there is no cycle.
use Rattle.std.proofs.Common.{◌≡◌, ℕ, ◌+◌, ◌<◌, List, length, get_or, refl, sym, ap, ◌∙◌, subst, arith, ⊎_elim}
use Rattle.std.specs.Prelude.{slice_index, IsFalse}
use Rattle.std.proofs.lemmas.Bool.{both_ways, cases_lt}
use Rattle.std.proofs.lemmas.Option.{slice_get-get_or}
use Rattle.velo_events.specs.declared.event.Event.{Event}
use Rattle.velo_events.specs.Conflict.{conflict}
use Rattle.velo_events.specs.Graph.{conflict_at, Edge, HasCycle}
use Rattle.velo_events.proofs.OnGraphs.{IsCycle-none_by_rank}
use Rattle.velo_graph_tests.specs.Rising.{RisesAt, RiseBelow}

conflict_at-reads : (trace : List Event) (i j : ℕ) (d : Event) → i < length trace → j < length trace → conflict_at trace i j ≡ conflict (get_or trace i d) (get_or trace j d)
unfolding conflict_at
conflict_at-reads trace i j d h l = rw (slice_get-get_or trace i d h, slice_get-get_or trace j d l) refl

-- without a conflict nothing has to rise
pub RisesAt-free : (trace events : List Event) → events ≡ trace → (ranks : List ℕ) (i j : ℕ) (d : Event) → i < j → j < length trace → IsFalse (conflict (get_or events i d) (get_or events j d)) → RisesAt trace ranks i j
RisesAt-free trace events same ranks i j d before within free =
    let none = conflict_at-reads trace i j d (omega (arith, before, within)) within ∙ subst (λ xs. IsFalse (conflict (get_or xs i d) (get_or xs j d))) same free in
    record { rises = λ c differ. absurd (both_ways (conflict_at trace i j) none c) }

pub below_more : (P : ℕ → Type 0) (n : ℕ) → ((k : ℕ) → k < n → P k) → P n → (k : ℕ) → k < n + 1 → P k
below_more P n h here k l = ⊎_elim (λ under. h k under) (λ from. subst P (let same : n ≡ k = omega (arith, from, l) in same) here) (cases_lt k n)

pub no_cycle-rising : (trace : List Event) (ranks : List ℕ) → RiseBelow trace ranks (length trace) → ¬ HasCycle trace
no_cycle-rising trace ranks rise c = IsCycle-none_by_rank (Edge trace) (slice_index ranks) rises c.cycle c.is_cycle
  where
    rises : (a b : ℕ) → Edge trace a b → slice_index ranks a < slice_index ranks b
    rises a b e =
        let at_it = ((rise.each e.to e.in_trace).each e.from e.in_order).rises e.in_conflict (λ same. e.differ (sym e.of_from ∙ (same ∙ e.of_to))) in
        omega (arith, at_it, ap (slice_index ranks) e.of_from, ap (slice_index ranks) e.of_to)
