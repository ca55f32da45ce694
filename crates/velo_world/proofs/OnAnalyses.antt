-- The events that the monitor of a run took in.
use Rattle.std.proofs.Common.{◌≡◌, ℕ, List, [], ◌∷◌, ◌++◌, length, take, take_all, Option, Some, None, Result, Ok, Err, refl, sym, ap, ◌∙◌, subst, arith, ⊎_elim}
use Rattle.std.specs.Prelude.{IsTrue, IsFalse, is_some, OnOk}
use Rattle.std.proofs.lemmas.Bool.{false≢true}
use Rattle.std.proofs.lemmas.List.{take-append-le}
use Rattle.velo_events.specs.declared.config.Bounds.{Bounds}
use Rattle.velo_events.specs.declared.event.Event.{Event}
use Rattle.velo_events.specs.Graph.{HasCycle}
use Rattle.velo_events.proofs.OnGraphs.{IsClosing-unique, HasCycle-from_closing}
use Rattle.velo_tables.specs.Clocks.{AreClocksOf, AreClocksSince, HasRoomToNote, IsOfThreads}
use Rattle.velo_events.specs.Place.{Place}
use Rattle.velo_tables.specs.LastAccesses.{entry, HasRoomFor}
use Rattle.velo_tables.proofs.OnThreads.{IsOfThreads-follows}
use Rattle.velo_monitor.specs.Watched.{Watched, IsMonitorOf}
use Rattle.velo_world.specs.declared.analysis.Alarm.{Alarm}
use Rattle.velo_heap.specs.Contents.{Contents, bounds_of, IsHeapOf}
use Rattle.velo_events.specs.WellFormed.{IsWellFormed, MayFollow}
use Rattle.velo_events.proofs.OnWellFormed.{IsWellFormed-push}
use Rattle.velo_blame.specs.Clocks.{RunClocks}
use Rattle.velo_world.specs.World.{IsAlarm, AlarmOf, IsWatchedPart}
use Rattle.velo_world.specs.FirstCycle.{events_watched}
use Rattle.velo_world.proofs.OnNodeRoom.{HasSlot-reserved}
use Rattle.velo_world.specs.Analysis.{IsWatched, IsAnalysisOf, HasSlotFor, HasRoomForNext, ComesNext}
use Rattle.velo_world.proofs.OnAlarms.{AlarmOf-stays, AlarmOf-quiet}
use Rattle.velo_world.specs.declared.analysis.Analysis.{Analysis}

pub alarm-none : (alarm : Option Alarm) → IsFalse (is_some alarm) → alarm ≡ None
alarm-none None is = refl
alarm-none (Some a) is = absurd (false≢true (sym is))

pub alarm-not_none : (alarm : Option Alarm) → IsTrue (is_some alarm) → alarm ≡ None → ⊥
alarm-not_none None some is = false≢true some
alarm-not_none (Some a) some is = cc

-- after an alarm nothing is taken in
pub events_watched-stays : (log : List Event) (e : Event) (alarm : Option Alarm) → IsTrue (is_some alarm) → AlarmOf log alarm → events_watched (log ++ e ∷ []) alarm ≡ events_watched log alarm
events_watched-stays log e None some are = absurd (false≢true some)
events_watched-stays log e (Some a) some are = let lt = are.closing.in_trace in take-append-le a.position log (e ∷ []) (omega (arith, lt))

-- before it all is
pub events_watched-none : (log : List Event) (alarm : Option Alarm) → IsFalse (is_some alarm) → events_watched log alarm ≡ log
events_watched-none log None none = refl
events_watched-none log (Some a) none = absurd (false≢true (sym none))

pub take-before : (log : List Event) (e : Event) → take (length log) (log ++ e ∷ []) ≡ log
take-before log e = take-append-le (length log) log (e ∷ []) (omega arith) ∙ take_all (length log) log (omega arith)

-- the events watched, as the log alone tells them
pub events_watched-part : (log trace : List Event) (alarm : Option Alarm) → AlarmOf log alarm → IsWatchedPart log trace → trace ≡ events_watched log alarm
events_watched-part log trace None are part = ⊎_elim (λ whole. whole.1) (λ front. absurd (are (HasCycle-from_closing log front.0 front.1))) part.part
events_watched-part log trace (Some a) are part =
    ⊎_elim (λ whole. absurd (whole.0 (HasCycle-from_closing log a.position are.closing))) (λ front. front.2 ∙ ap (λ n. take n log) (IsClosing-unique log front.0 a.position front.1 are.closing)) part.part

-- ---- room

pub OnOk-then : {T E : Type 0} (result : Result T E) (P Q : Type 0) → OnOk result P → (P → Q) → OnOk result Q
OnOk-then (Ok x) P Q h f = f h
OnOk-then (Err x) P Q h f = tt

-- the event that may come next finds room at monitor and clocks, where room was made for it
pub room-reserved : (old new : Analysis) (trace : List Event) (e : Event) → new.alarm ≡ old.alarm → new.monitor.nodes ≡ old.monitor.nodes → ((p : Place) → entry new.monitor.kept p ≡ entry old.monitor.kept p) → HasSlotFor old trace e → (new.alarm ≡ None → HasRoomFor new.monitor.kept e) → HasRoomToNote new.clocks.bounds.threads new.clocks.state e → HasRoomForNext new trace e
room-reserved old new trace e alarm nodes entries slot monitor clocks = record {
  monitor = monitor;
  slot = record { slot = λ none. HasSlot-reserved old.monitor new.monitor trace e nodes entries (slot.slot (sym alarm ∙ none)) };
  clocks = λ _. clocks;
}

-- the clocks know the threads of the event that may come next
pub threads-next : (analysis : Analysis) (trace : List Event) (e : Event) → IsAnalysisOf analysis trace → MayFollow (bounds_of analysis.heap) trace e → IsOfThreads analysis.clocks.bounds.threads e
threads-next analysis trace e stands follows = subst (λ (b : Bounds). IsOfThreads b.threads e) (sym stands.watched.bounds_are) (IsOfThreads-follows (bounds_of analysis.heap) trace e follows)

-- ---- what monitor and clocks saw

-- after an alarm they see nothing
pub IsWatched-stays : (analysis : Analysis) (bounds : Bounds) (trace : List Event) (e : Event) → IsTrue (is_some analysis.alarm) → IsWatched analysis bounds trace → IsWatched analysis bounds (trace ++ e ∷ [])
IsWatched-stays analysis bounds trace e some is =
    let same = sym (events_watched-stays trace e analysis.alarm some is.alarm) in
    record {
      alarm = AlarmOf-stays trace e analysis.alarm some is.alarm;
      monitor = subst (IsMonitorOf bounds analysis.monitor) same is.monitor;
      clocks = subst (AreClocksOf analysis.clocks.state) same is.clocks;
      bounds_are = is.bounds_are;
    }

-- before it they stand for the same events
pub monitor-quiet : (analysis : Analysis) (bounds : Bounds) (trace : List Event) → IsFalse (is_some analysis.alarm) → IsWatched analysis bounds trace → IsMonitorOf bounds analysis.monitor trace
monitor-quiet analysis bounds trace quiet is = subst (IsMonitorOf bounds analysis.monitor) (events_watched-none trace analysis.alarm quiet) is.monitor

pub clocks-quiet : (analysis : Analysis) (bounds : Bounds) (trace : List Event) → IsFalse (is_some analysis.alarm) → IsWatched analysis bounds trace → AreClocksOf analysis.clocks.state trace
clocks-quiet analysis bounds trace quiet is = subst (AreClocksOf analysis.clocks.state) (events_watched-none trace analysis.alarm quiet) is.clocks

pub IsWatched-quiet : (analysis : Analysis) (bounds : Bounds) (trace : List Event) → IsFalse (is_some analysis.alarm) → ¬ HasCycle trace → IsMonitorOf bounds analysis.monitor trace → AreClocksOf analysis.clocks.state trace → analysis.clocks.bounds ≡ bounds → IsWatched analysis bounds trace
IsWatched-quiet analysis bounds trace quiet acyclic monitor clocks bounds_are =
    let same = sym (events_watched-none trace analysis.alarm quiet) in
    record {
      alarm = AlarmOf-quiet trace analysis.alarm quiet acyclic;
      monitor = subst (IsMonitorOf bounds analysis.monitor) same monitor;
      clocks = subst (AreClocksOf analysis.clocks.state) same clocks;
      bounds_are = bounds_are;
    }

-- monitor and clocks of the same events, with more room, do as well
pub IsAnalysisOf-reserved : (analysis : Analysis) (monitor : Watched) (clocks : RunClocks) (trace : List Event) → ((bounds : Bounds) (past : List Event) → IsMonitorOf bounds analysis.monitor past → IsMonitorOf bounds monitor past) → ((first : ℕ) (past : List Event) → AreClocksSince first analysis.clocks.state past → AreClocksSince first clocks.state past) → clocks.bounds ≡ analysis.clocks.bounds → IsAnalysisOf analysis trace → IsAnalysisOf (record analysis { monitor = monitor; clocks = clocks }) trace
IsAnalysisOf-reserved analysis monitor clocks trace same known bounds_are is = record {
  heap = is.heap;
  watched = record {
    alarm = is.watched.alarm;
    monitor = same _ _ is.watched.monitor;
    clocks = known 0 _ is.watched.clocks;
    bounds_are = bounds_are ∙ is.watched.bounds_are;
  };
}

-- the heap goes on beside them
pub IsAnalysisOf-applied : (analysis : Analysis) (heap : Contents) (bounds : Bounds) (trace : List Event) → IsHeapOf heap trace → bounds_of heap ≡ bounds → IsWatched analysis bounds trace → IsAnalysisOf (record analysis { heap = heap }) trace
IsAnalysisOf-applied analysis heap bounds trace is same watched = record {
  heap = is;
  watched = record {
    alarm = watched.alarm;
    monitor = subst (λ b. IsMonitorOf b analysis.monitor (events_watched trace analysis.alarm)) (sym same) watched.monitor;
    clocks = watched.clocks;
    bounds_are = watched.bounds_are ∙ sym same;
  };
}

-- at it they stand for the events before
pub IsWatched-raised : (analysis : Analysis) (bounds : Bounds) (trace : List Event) (e : Event) (alarm : Alarm) → analysis.alarm ≡ Some alarm → alarm.position ≡ length trace → IsAlarm (trace ++ e ∷ []) alarm → IsMonitorOf bounds analysis.monitor trace → AreClocksOf analysis.clocks.state trace → analysis.clocks.bounds ≡ bounds → IsWatched analysis bounds (trace ++ e ∷ [])
IsWatched-raised analysis bounds trace e alarm raised here is monitor clocks bounds_are =
    let part : events_watched (trace ++ e ∷ []) analysis.alarm ≡ trace = rw (raised, here) (take-before trace e) in
    record {
      alarm = rw raised is;
      monitor = subst (IsMonitorOf bounds analysis.monitor) (sym part) monitor;
      clocks = subst (AreClocksOf analysis.clocks.state) (sym part) clocks;
      bounds_are = bounds_are;
    }

-- the next event keeps the trace well-formed
pub well-next : (analysis : Analysis) (trace : List Event) (e : Event) → ComesNext analysis trace e → IsWellFormed analysis.clocks.bounds (trace ++ e ∷ [])
well-next analysis trace e next =
    subst (λ b. IsWellFormed b (trace ++ e ∷ [])) (sym next.stands.watched.bounds_are) (IsWellFormed-push (bounds_of analysis.heap) trace e next.stands.heap.well_formed next.follows)
