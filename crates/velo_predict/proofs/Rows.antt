-- The definitions at logs that are written out, as a check that they say what is meant.
use Rattle.std.proofs.Common.{◌≡◌, ℕ, zero, suc, List, [], ◌∷◌, get_or, Some, refl, ap, subst, inl, arith}
use Rattle.std.specs.Prelude.{slice_get, IsFalse}
use Rattle.std.proofs.lemmas.Bool.{false≢true, both_ways}
use Rattle.std.proofs.lemmas.Option.{none-some, same_Some}
use Rattle.velo_events.specs.declared.event.Event.{Event}
use Rattle.velo_events.specs.declared.event.Kind.{Kind}
use Rattle.velo_events.specs.declared.event.Kind.TheVariants.{Read, Write, Acquire, Release, Begin, End, Fork}
use Rattle.velo_events.specs.Event.{value_of}
use Rattle.velo_events.specs.Block.{any_below, least_below, passes_at, is_balanced, is_open_at, is_in_block, owner}
use Rattle.velo_events.specs.Graph.{conflict_at, HasCycle}
use Rattle.velo_events.specs.Heap.{latest, happened, times}
use Rattle.velo_events.proofs.Deciders.{all_below, makes_edge, edge_by}
use Rattle.velo_events.proofs.OnLookUps.{happened-at}
use Rattle.velo_movers.specs.Free.{gives_up}
use Rattle.velo_predict.specs.Deadlocks.{WaitsFor, HasDeadlock, IsNextAction}
use Rattle.velo_predict.specs.Deadlocks.WaitsFor.{ForLock}
use Rattle.velo_predict.specs.Differences.{IsDifference}
use Rattle.velo_predict.specs.Waits.{IsCircle, IsDue}
use Rattle.velo_predict.specs.declared.waits.Waiting.{Waiting}
use Rattle.velo_predict.specs.Predictions.{HasTurned, HasReadBehind, IsForetold}
use Rattle.velo_predict.specs.Predictions.IsForetold.{Known, Unknown}

-- a proof that says `unfolding computed` computes with the definitions
computed : Unit {0}
unfolding latest happened times any_below least_below passes_at is_balanced is_open_at is_in_block owner conflict_at all_below makes_edge
computed = tt

abbrev by : ℕ → Kind → Event
by t k = record { thread = record { 0 = t }; kind = k }

abbrev read : ℕ → ℕ → ℕ → Event
read t x v = by t (Read (record { 0 = x }) v)

abbrev write : ℕ → ℕ → ℕ → Event
write t x v = by t (Write (record { 0 = x }) v)

abbrev acquire : ℕ → ℕ → Event
acquire t m = by t (Acquire (record { 0 = m }))

abbrev release : ℕ → ℕ → Event
release t m = by t (Release (record { 0 = m }))

abbrev begin : ℕ → ℕ → Event
begin t l = by t (Begin (record { 0 = l }))

abbrev fork : ℕ → ℕ → Event
fork t u = by t (Fork (record { 0 = u }))

-- where nothing is given up nothing is read behind it
nothing_behind : (log trace : List Event) (t : ℕ) → IsFalse (happened (λ e. gives_up e.kind) trace) → ¬ HasReadBehind log trace t
nothing_behind log trace t none h = both_ways _ none (happened-at (λ e. gives_up e.kind) trace h.release h.loose.event h.loose.here h.loose.release)

-- ---- thread 1 reads what thread 0 wrote, and writes

abbrev handed : List Event
handed = fork 0 1 ∷ write 0 0 1 ∷ read 1 0 1 ∷ write 1 0 2 ∷ []

-- it may come first, and then reads 0
early_read : IsForetold handed (fork 0 1 ∷ []) (read 1 0 0)
unfolding computed
early_read = Known (read 1 0 1) (record { sure = nothing_behind handed (fork 0 1 ∷ []) 1 refl; rest = write 1 0 2 ∷ []; along = refl }) refl

-- and this differs from the log
early_difference : IsDifference handed (fork 0 1 ∷ read 1 0 0 ∷ []) (record { position = 1; recorded = 2 })
unfolding computed
early_difference = record {
  read = read 1 0 0;
  here = refl;
  differs = record {
    next = read 1 0 1;
    there = refl;
    by = refl;
    same_past = refl;
    is_read = refl;
    differ = λ h. let values : 0 ≡ 1 = ap value_of h in absurd (omega (arith, values));
  };
}

-- but what it does then is unknown
early_write : ¬ IsForetold handed (fork 0 1 ∷ read 1 0 0 ∷ []) (write 1 0 2)
early_write (Known next n same) =
    let values : 1 ≡ 0 = ap (λ (es : List Event). value_of ((get_or es 0 next).kind)) n.along in
    absurd (omega (arith, values))
early_write (Unknown unsure given) = false≢true given

-- ---- a lock that is taken twice: a read under it, and then a write

abbrev twice : List Event
twice =
    fork 0 1
    ∷ begin 0 7 ∷ acquire 0 0 ∷ read 0 0 0 ∷ release 0 0 ∷ acquire 0 0 ∷ write 0 0 1 ∷ release 0 0 ∷ by 0 End
    ∷ begin 1 7 ∷ acquire 1 0 ∷ read 1 0 1 ∷ release 1 0 ∷ acquire 1 0 ∷ write 1 0 2 ∷ release 1 0 ∷ by 1 End
    ∷ []

-- thread 1 comes between the two sections of thread 0, and gives its lock back
abbrev between : List Event
between = fork 0 1 ∷ begin 0 7 ∷ acquire 0 0 ∷ read 0 0 0 ∷ release 0 0 ∷ begin 1 7 ∷ acquire 1 0 ∷ read 1 0 0 ∷ []

turned : HasTurned twice between 1
turned beginning =
    let values : 1 ≡ 0 = ap (λ (es : List Event). value_of ((get_or es 2 (fork 0 1)).kind)) beginning.1 in
    absurd (omega (arith, values))

gives_back : IsForetold twice between (release 1 0)
gives_back = Unknown (inl turned) refl

abbrev broken : List Event
broken = fork 0 1 ∷ begin 0 7 ∷ acquire 0 0 ∷ read 0 0 0 ∷ release 0 0 ∷ begin 1 7 ∷ acquire 1 0 ∷ read 1 0 0 ∷ release 1 0 ∷ acquire 0 0 ∷ []

broken_block : HasCycle broken
unfolding computed
broken_block = record { cycle = 1 ∷ 5 ∷ []; is_cycle = (edge_by broken 4 6 refl, edge_by broken 8 9 refl) }

-- ---- two locks, taken in two orders

abbrev crossed : List Event
crossed =
    fork 0 1
    ∷ acquire 0 0 ∷ acquire 0 1 ∷ release 0 1 ∷ release 0 0
    ∷ acquire 1 1 ∷ acquire 1 0 ∷ release 1 0 ∷ release 1 1
    ∷ []

abbrev both_hold : List Event
both_hold = fork 0 1 ∷ acquire 0 0 ∷ acquire 1 1 ∷ []

crossed_waits : WaitsFor (IsNextAction crossed both_hold) both_hold 0 1 × WaitsFor (IsNextAction crossed both_hold) both_hold 1 0
unfolding computed
crossed_waits = (
  ForLock (record { 0 = 1 }) (record {
    event = acquire 0 1;
    next = record { sure = nothing_behind crossed both_hold 0 refl; rest = release 0 1 ∷ release 0 0 ∷ []; along = refl };
    is_action = refl;
  }) refl (λ h. absurd (omega (arith, h))) refl,
  ForLock (record { 0 = 0 }) (record {
    event = acquire 1 0;
    next = record { sure = nothing_behind crossed both_hold 1 refl; rest = release 1 0 ∷ release 1 1 ∷ []; along = refl };
    is_action = refl;
  }) refl (λ h. absurd (omega (arith, h))) refl,
)

waiting : HasDeadlock (IsNextAction crossed both_hold) both_hold
waiting = record { threads = 0 ∷ 1 ∷ []; circle = crossed_waits }

at_next : ℕ → ℕ → Waiting
at_next t next = record { thread = record { 0 = t }; next = next }

circle : IsCircle crossed both_hold (at_next 0 2 ∷ at_next 1 6 ∷ [])
unfolding computed at_next
circle = record { ring = crossed_waits; due = record { each = each } }
  where
    each : (i : ℕ) (w : Waiting) → slice_get (at_next 0 2 ∷ at_next 1 6 ∷ []) i ≡ Some w → IsDue crossed both_hold w.thread.0 w.next
    each zero w at = subst (λ v. IsDue crossed both_hold v.thread.0 v.next) (same_Some (at_next 0 2) w at) (record { next = acquire 0 1; there = refl; by = refl; same_past = refl; sure = nothing_behind crossed both_hold 0 refl })
    each (suc zero) w at = subst (λ v. IsDue crossed both_hold v.thread.0 v.next) (same_Some (at_next 1 6) w at) (record { next = acquire 1 0; there = refl; by = refl; same_past = refl; sure = nothing_behind crossed both_hold 1 refl })
    each (suc (suc i)) w at = absurd (none-some w at)
