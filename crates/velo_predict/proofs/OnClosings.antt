-- The first event that closes a cycle, between events that have none and events that have one.
use Rattle.std.proofs.Common.{ℕ, ◌+◌, ◌<◌, ◌≤◌, List, [], ◌∷◌, length, take, sym, subst, arith}
use Rattle.velo_events.specs.declared.event.Event.{Event}
use Rattle.velo_events.specs.Graph.{Edge, HasCycle, IsClosing, IsCycle}
use Rattle.velo_events.proofs.OnGraphs.{HasCycle-from_take}
use Rattle.velo_events.proofs.OnScans.{take-take_le}

pub HasCycle-more : (trace : List Event) (n m : ℕ) → n ≤ m → HasCycle (take n trace) → HasCycle (take m trace)
HasCycle-more trace n m le c = HasCycle-from_take (take m trace) n (subst HasCycle (sym (take-take_le n m trace le)) c)

pub no_cycle-nil : ¬ HasCycle []
no_cycle-nil c = none c.cycle c.is_cycle
  where
    none : (cycle : List ℕ) → ¬ IsCycle (Edge []) cycle
    none [] h = absurd h
    none (a ∷ []) h = absurd h
    none (a ∷ b ∷ rest) h = absurd (omega (arith, h.0.in_trace))

pub IsClosing-between : (trace : List Event) (n : ℕ) → n < length trace → ¬ HasCycle (take n trace) → HasCycle (take (n + 1) trace) → IsClosing trace n
IsClosing-between trace n within none some = record {
  in_trace = within;
  closes = some;
  least = λ q less c. none (HasCycle-more trace (q + 1) n (omega (arith, less)) c);
}
