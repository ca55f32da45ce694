-- The alarm of a log with one more event.
use Rattle.std.proofs.Common.{◌≡◌, ℕ, suc, ◌+◌, ◌<◌, List, [], ◌∷◌, ◌++◌, length, take, length-take, map, Option, Some, None, refl, sym, ap, ◌∙◌, subst, arith}
use Rattle.std.specs.Prelude.{slice_get, IsTrue, IsFalse, IfNone, IfSome, is_some, ◌↔◌, Contains}
use Rattle.std.specs.Option.{option_map_or}
use Rattle.std.proofs.lemmas.List.{take-append-le, length-take-le}
use Rattle.std.proofs.lemmas.Bool.{false≢true}
use Rattle.std.proofs.lemmas.Option.{slice_get_within}
use Rattle.velo_events.specs.declared.event.Event.{Event}
use Rattle.velo_events.specs.Block.{owner}
use Rattle.velo_events.specs.Graph.{HasCycle, IsClosing}
use Rattle.velo_events.specs.Event.{thread_of}
use Rattle.velo_events.specs.Reordering.{IsSerializable, AreBlamed}
use Rattle.velo_events.proofs.OnBlocks.{owner-append}
use Rattle.velo_events.proofs.OnOwners.{is_open_at-within}
use Rattle.velo_events.proofs.OnTraces.{slice_get-append}
use Rattle.velo_events.proofs.OnUnfinished.{Contains-open_blocks}
use Rattle.velo_traces.specs.Blocks.{block_at, label_of}
use Rattle.velo_blame.specs.Blamed.{AreBlamedAt, begins_of, thread_at}
use Rattle.velo_events.proofs.OnGraphs.{IsClosing-push, IsClosing-append, HasCycle-from_closing}
use Rattle.velo_events.proofs.OnSerializing.{serializable_law, serializable_law-none}
use Rattle.velo_world.specs.declared.analysis.Alarm.{Alarm}
use Rattle.velo_world.specs.World.{IsAlarm, AlarmOf}

-- ---- the blocks of an alarm in a longer log

blocks-append : (log more : List Event) (xs : List ℕ) → ((b : ℕ) → Contains xs b → b < length log) → map (block_at (log ++ more)) xs ≡ map (block_at log) xs
blocks-append log more [] within = refl
blocks-append log more (x ∷ xs) within =
    let first : block_at (log ++ more) x ≡ block_at log x = ap (λ (o : Option Event). record { first = x; label = option_map_or (λ f. label_of f.kind) o (record { 0 = 0 }) }) (slice_get-append log more x (within x (0, omega arith, refl))) in
    ap (λ b. b ∷ map (block_at (log ++ more)) xs) first
    ∙ ap (λ ys. block_at log x ∷ ys) (blocks-append log more xs (λ b w. within b (suc w.0, omega (arith, w.1), w.2)))

blamed-within : (log : List Event) (p : ℕ) (blamed : List ℕ) → p < length log → AreBlamedAt log p blamed → (b : ℕ) → Contains blamed b → b < length log
blamed-within log p blamed lt are b w =
    let opened = (Contains-open_blocks (take (p + 1) log) (thread_at log p) b).0 ((are.which b).0 w).0 in
    let inside = is_open_at-within (take (p + 1) log) (thread_at log p) b (length (take (p + 1) log)) opened in
    let long = length-take-le (p + 1) log (omega (arith, lt)) in
    omega (arith, inside, long)

AreBlamedAt-append : (log more : List Event) (p : ℕ) (blamed : List ℕ) → p < length log → AreBlamedAt log p blamed → AreBlamedAt (log ++ more) p blamed
AreBlamedAt-append log more p blamed lt are =
    let events : take (p + 1) (log ++ more) ≡ take (p + 1) log = take-append-le (p + 1) log more (omega (arith, lt)) in
    let thread : thread_at (log ++ more) p ≡ thread_at log p = ap (λ (o : Option Event). option_map_or thread_of o 0) (slice_get-append log more p lt) in
    subst (λ t. AreBlamed (take (p + 1) (log ++ more)) t blamed) (sym thread) (subst (λ xs. AreBlamed xs (thread_at log p) blamed) (sym events) are)

-- ---- the alarm

-- an alarm stays however the log goes on
pub IsAlarm-append : (log more : List Event) (alarm : Alarm) → IsAlarm log alarm → IsAlarm (log ++ more) alarm
IsAlarm-append log more alarm h = record {
  closing = IsClosing-append log more alarm.position h.closing;
  transaction = h.transaction ∙ sym (owner-append log more alarm.position h.closing.in_trace);
  blamed = AreBlamedAt-append log more alarm.position (begins_of alarm.blamed.items) h.closing.in_trace h.blamed;
  blocks = h.blocks ∙ sym (blocks-append log more (begins_of alarm.blamed.items) (blamed-within log alarm.position (begins_of alarm.blamed.items) h.closing.in_trace h.blamed));
}

pub AlarmOf-stays : (log : List Event) (e : Event) (alarm : Option Alarm) → IsTrue (is_some alarm) → AlarmOf log alarm → AlarmOf (log ++ e ∷ []) alarm
AlarmOf-stays log e None some h = absurd (false≢true some)
AlarmOf-stays log e (Some a) some h = IsAlarm-append log (e ∷ []) a h

-- the alarm of the event that closes the first cycle
pub IsAlarm-closing : (log : List Event) (e : Event) (alarm : Alarm) → ¬ HasCycle log → HasCycle (log ++ e ∷ []) → alarm.position ≡ length log → alarm.transaction ≡ owner (log ++ e ∷ []) alarm.position → AreBlamedAt (log ++ e ∷ []) alarm.position (begins_of alarm.blamed.items) → alarm.blamed.items ≡ map (block_at (log ++ e ∷ [])) (begins_of alarm.blamed.items) → IsAlarm (log ++ e ∷ []) alarm
IsAlarm-closing log e alarm none some here of blamed blocks = record {
  closing = subst (IsClosing (log ++ e ∷ [])) (sym here) (IsClosing-push log e none some);
  transaction = of;
  blamed = blamed;
  blocks = blocks;
}

-- so many events stand before a position
pub length-before : (log : List Event) (i : ℕ) (e : Event) → slice_get log i ≡ Some e → length (take i log) ≡ i
length-before log i e here = let within : i < length log = slice_get_within log i e here in omega (arith, length-take i log, within)

pub no_alarm : (log : List Event) (alarm : Option Alarm) → IsFalse (is_some alarm) → AlarmOf log alarm → ¬ HasCycle log
no_alarm log None none h = h
no_alarm log (Some a) none h = absurd (false≢true (sym none))

pub AlarmOf-alarmed : (log : List Event) (alarm : Option Alarm) → AlarmOf log alarm → IsTrue (is_some alarm) ↔ HasCycle log
AlarmOf-alarmed log None h = (λ some. absurd (false≢true some), λ c. absurd (h c))
AlarmOf-alarmed log (Some a) h = (λ _. HasCycle-from_closing log a.position h.closing, λ _. refl)

-- without an alarm the log has a serial reordering, and with one it has none
pub AlarmOf-serializable : {T : Type 0} (log : List Event) (alarm : Option Alarm) (result : Option T) → AlarmOf log alarm → is_some result ≡ is_some alarm → IfNone result (IsSerializable log) × IfSome result (λ _. ¬ IsSerializable log)
AlarmOf-serializable log None None h same = ((serializable_law-none log).0 h, tt)
AlarmOf-serializable log None (Some r) h same = absurd (false≢true (sym same))
AlarmOf-serializable log (Some a) None h same = absurd (false≢true same)
AlarmOf-serializable log (Some a) (Some r) h same = (tt, (serializable_law log).0 (HasCycle-from_closing log a.position h.closing))

-- without a cycle no alarm is that of the log
pub AlarmOf-quiet : (log : List Event) (alarm : Option Alarm) → IsFalse (is_some alarm) → ¬ HasCycle log → AlarmOf log alarm
AlarmOf-quiet log None none acyclic = acyclic
AlarmOf-quiet log (Some a) none acyclic = absurd (false≢true (sym none))
