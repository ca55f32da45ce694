-- The event that closes the first cycle of a log.
use Rattle.std.proofs.Common.{◌≡◌, ℕ, zero, suc, ◌+◌, ◌<◌, ◌≤◌, List, [], ◌∷◌, ◌++◌, length, length-append, length-take, take, drop, Option, Some, None, refl, sym, ap, ◌∙◌, subst, arith}
use Rattle.std.specs.Prelude.{IsFalse}
use Rattle.std.proofs.lemmas.Bool.{both_ways, eq-eqb, false_from_ne_true}
use Rattle.std.proofs.lemmas.List.{take-append-drop}
use Rattle.velo_events.specs.declared.event.Event.{Event}
use Rattle.velo_events.specs.Block.{is_in_block, is_open_at, owner}
use Rattle.velo_events.specs.Event.{is_by}
use Rattle.velo_events.specs.Graph.{Edge, HasCycle, IsClosing, IsCycle}
use Rattle.velo_events.proofs.OnBlocks.{owner-append, owner-first, owner-le}
use Rattle.velo_events.proofs.OnGraphs.{IsClosing-push, IsClosing-append, IsClosing-unique, HasCycle-from_closing}
use Rattle.velo_events.proofs.OnOwners.{is_in_block-open}
use Rattle.velo_events.proofs.OnScans.{passes_at-is, take-take_le}
use Rattle.velo_events.proofs.OnTraces.{slice_get-push}
use Rattle.velo_world.specs.declared.analysis.Alarm.{Alarm}
use Rattle.velo_world.specs.declared.first_cycle.Closing.{Closing}
use Rattle.velo_world.specs.FirstCycle.{ClosesFirst, IsFirstClosing, events_before, events_watched}
use Rattle.velo_world.specs.World.{AlarmOf, IsAlarm}
use Rattle.velo_world.proofs.OnAlarms.{IsAlarm-append}

-- ---- the first events of a log

-- an event closes the first cycle of the events up to it, and of all that begin with them
pub ClosesFirst-push : (log : List Event) (e : Event) (closing : Closing) → ¬ HasCycle log → HasCycle (log ++ e ∷ []) → length log ≡ closing.position → closing.transaction ≡ owner (log ++ e ∷ []) closing.position → ClosesFirst (log ++ e ∷ []) closing
ClosesFirst-push log e closing none some here of = record { closes = subst (IsClosing (log ++ e ∷ [])) here (IsClosing-push log e none some); transaction = of }

pub ClosesFirst-whole : (log : List Event) (n : ℕ) (closing : Closing) → ClosesFirst (take n log) closing → ClosesFirst log closing
ClosesFirst-whole log n closing first = subst (λ l. ClosesFirst l closing) (take-append-drop n log) (record {
  closes = IsClosing-append (take n log) (drop n log) closing.position first.closes;
  transaction = first.transaction ∙ sym (owner-append (take n log) (drop n log) closing.position first.closes.in_trace);
})

pub ClosesFirst-part : (log : List Event) (closing : Closing) → ClosesFirst log closing → ClosesFirst (take (closing.position + 1) log) closing
ClosesFirst-part log closing first =
    let p = closing.position in
    let within = first.closes.in_trace in
    let inside : p < length (take (p + 1) log) = omega (arith, within, length-take (p + 1) log) in
    record {
      closes = record {
        in_trace = inside;
        closes = subst HasCycle (sym (take-take_le (p + 1) (p + 1) log (omega arith))) first.closes.closes;
        least = λ q less c. first.closes.least q less (subst HasCycle (take-take_le (q + 1) (p + 1) log (omega (arith, less))) c);
      };
      transaction = first.transaction ∙ (ap (λ l. owner l p) (sym (take-append-drop (p + 1) log)) ∙ owner-append (take (p + 1) log) (drop (p + 1) log) p inside);
    }

-- its alarm is that of all
pub IsAlarm-whole : (log : List Event) (n : ℕ) (alarm : Alarm) → IsAlarm (take n log) alarm → IsAlarm log alarm
IsAlarm-whole log n alarm is = subst (λ l. IsAlarm l alarm) (take-append-drop n log) (IsAlarm-append (take n log) (drop n log) alarm is)

-- the events before it have no cycle
pub acyclic-before : (log : List Event) (p : ℕ) → IsClosing log p → ¬ HasCycle (take p log)
acyclic-before log p closing = before p refl
  where
    no_edge : (cycle : List ℕ) → IsCycle (Edge []) cycle → ⊥
    no_edge [] h = h
    no_edge (a ∷ []) h = h
    no_edge (a ∷ b ∷ []) h = (let l = h.0.in_trace in omega (arith, l))
    no_edge (a ∷ b ∷ c ∷ cs) h = (let l = h.0.in_trace in omega (arith, l))

    before : (q : ℕ) → q ≡ p → HasCycle (take q log) → ⊥
    before zero at c = no_edge c.cycle c.is_cycle
    before (suc q) at c = closing.least q (omega (arith, at)) (subst (λ k. HasCycle (take k log)) (let more : suc q ≡ q + 1 = omega arith in more) c)

-- they are the events that are watched
pub watched-before : (log : List Event) (closing : Option Closing) (alarm : Option Alarm) → IsFirstClosing log closing → AlarmOf log alarm → events_before log closing ≡ events_watched log alarm
watched-before log None None first is = refl
watched-before log None (Some a) first is = absurd (first (HasCycle-from_closing log a.position is.closing))
watched-before log (Some c) None first is = absurd (is (HasCycle-from_closing log c.position first.closes))
watched-before log (Some c) (Some a) first is = ap (λ n. take n log) (IsClosing-unique log c.position a.position first.closes is.closing)

-- ---- open blocks

-- no block that is open begins before the transaction of the last event
pub none_open : (past : List Event) (e : Event) (b : ℕ) → b < owner (past ++ e ∷ []) (length past) → IsFalse (is_open_at (past ++ e ∷ []) e.thread.0 b (length (past ++ e ∷ [])))
none_open past e b before =
    let whole = past ++ e ∷ [] in
    let own = passes_at-is whole (is_by e.thread.0) (length past) e (slice_get-push past e) ∙ eq-eqb e.thread.0 e.thread.0 refl in
    let from : b ≤ length past = omega (arith, before, owner-le whole (length past)) in
    let upto : length past ≤ length whole = omega (arith, length-append past (e ∷ [])) in
    false_from_ne_true _ (λ opened. both_ways (is_in_block whole b (length past)) (owner-first whole (length past) b before) (is_in_block-open whole e.thread.0 b (length whole) (length past) opened from upto own))
