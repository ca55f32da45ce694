-- What a watch has told, event by event.
use Rattle.std.proofs.Common.{◌≡◌, ℕ, ◌<◌, ◌≤◌, length, Bool, true, false, List, [], ◌∷◌, ◌++◌, Option, Some, None, Result, Ok, Err, refl, sym, ap, ◌∙◌, subst, append_assoc, arith}
use Rattle.std.proofs.lemmas.List.{append-nil}
use Rattle.std.specs.Io.KnownBytes.{Appends}
use Rattle.velo_events.specs.declared.config.Config.{Config}
use Rattle.velo_events.specs.declared.config.Bounds.{Bounds}
use Rattle.velo_events.specs.declared.event.Event.{Event}
use Rattle.velo_events.specs.Graph.{Edge, IsCycle, HasCycle}
use Rattle.velo_events.specs.WellFormed.{IsWellFormed}
use Rattle.velo_logtext.specs.declared.fault.LogFault.{LogFault}
use Rattle.velo_logtext.specs.declared.fault.LogFault.TheVariants.{BadHeader, BadLine, Truncated, TooLong, Read, Memory}
use Rattle.velo_logtext.specs.Finding.{failures_after}
use Rattle.velo_logtext.specs.Reader.{ReaderState, HasGiven}
use Rattle.velo_logtext.specs.Text.{text_in}
use Rattle.velo_bytes.proofs.OnDevices.{appends_then, appends_nothing, beginning_then}
use Rattle.velo_world.proofs.OnAlarms.{AlarmOf-stays}
use Rattle.velo_report.specs.Alarm.{alarm_line}
use Rattle.velo_watch.specs.declared.state.Watch.{Watch}
use Rattle.velo_watch.specs.declared.fault.WatchFault.{WatchFault}
use Rattle.velo_watch.specs.declared.fault.WatchFault.TheVariants.{Log, Replay, Write}
use Rattle.velo_watch.specs.UnderWay.{CameAbout, HasTold, TellsPart, IsUnderWay, FailsAfter, FailsToTell, Steps, read_failures}
use Rattle.velo_world.specs.World.{WorldState}
use Rattle.velo_watch.specs.Watch.{IsFront, Tells}

-- ---- no events

no-cycle : ¬ HasCycle []
no-cycle has = none has.cycle has.is_cycle
  where
    none : (cycle : List ℕ) → IsCycle (Edge []) cycle → ⊥
    none [] h = h
    none (a ∷ []) h = h
    none (a ∷ b ∷ rest) h = first rest h
      where
        first : (rest : List ℕ) → IsCycle (Edge []) (a ∷ b ∷ rest) → ⊥
        first [] h = let e : Edge [] a b = h.0 in omega (arith, e.in_trace)
        first (c ∷ cs) h = let e : Edge [] a b = h.0 in omega (arith, e.in_trace)

pub told_none : (contents : Option (List ℕ)) → HasTold false contents contents []
told_none contents = (no-cycle, appends_nothing contents)

-- ---- one event more

pub told_next : (old new : Option (List ℕ)) (log : List Event) (e : Event) → HasTold true old new log → HasTold true old new (log ++ e ∷ [])
told_next old new log e h = (h.0, AlarmOf-stays log e (Some h.0) refl h.1, h.2)

pub told_then : (told : Bool) (old between new : Option (List ℕ)) (log log' : List Event) → HasTold false old between log → HasTold told between new log' → HasTold told old new log'
told_then false old between new log log' p q = (q.0, appends_then old between new [] [] p.1 q.1)
told_then true old between new log log' p q = (q.0, q.1, appends_then old between new [] (alarm_line q.0) p.1 q.2)

pub tells : (told : Bool) (old new : Option (List ℕ)) (log : List Event) → HasTold told old new log → Tells old new log
tells false old new log h = record { alarm = None; exact = h.0; appends = h.1 }
tells true old new log h = record { alarm = Some h.0; exact = h.1; appends = h.2 }

pub front_given : (read : Option (List ℕ)) (events : List Event) (r : ReaderState) (remaining : Option (List ℕ)) → HasGiven read events r remaining → IsFront read r.bounds events
front_given None events r remaining h = tt
front_given (Some all) events r None h = absurd h.text
front_given (Some all) events r (Some more) h =
    (r.shares, r.held ++ more, record { bounds_fit = h.bounds_fit; events_fit = h.events_fit; text = sym h.text ∙ append_assoc (text_in r.shares r.bounds events) r.held more })

-- ---- a watch

pub opened_under_way : (read remaining contents : Option (List ℕ)) (watch : Watch) → HasGiven read [] watch.reader remaining → watch.world.log ≡ [] → watch.world.config.bounds ≡ watch.reader.bounds → watch.told ≡ false → IsUnderWay read remaining contents contents watch
opened_under_way read remaining contents watch given empty bounds untold = record {
  given = subst (λ (log : List Event). HasGiven read log watch.reader remaining) (sym empty) given;
  bounds = bounds;
  told = subst (λ (told : Bool). HasTold told contents contents watch.world.log) (sym untold) (subst (λ (log : List Event). HasTold false contents contents log) (sym empty) (told_none contents));
}

-- the events with the next one stand at the front
pub front_next : (read remaining remaining' old new : Option (List ℕ)) (watch : Watch) (reader : ReaderState) (e : Event) → IsUnderWay read remaining old new watch → HasGiven read (watch.world.log ++ e ∷ []) reader remaining' → reader.bounds ≡ watch.reader.bounds → IsFront read watch.world.config.bounds (watch.world.log ++ e ∷ [])
front_next read remaining remaining' old new watch reader e h given same =
    subst (λ (b : Bounds). IsFront read b (watch.world.log ++ e ∷ [])) (same ∙ sym h.bounds) (front_given read (watch.world.log ++ e ∷ []) reader remaining' given)

-- what was told with the next event, where nothing was before, or an alarm was
pub told_with : (told : Bool) (old between new : Option (List ℕ)) (watch : Watch) (log : List Event) → watch.told ≡ false → HasTold watch.told old between watch.world.log → HasTold told between new log → HasTold told old new log
told_with told old between new watch log untold before after =
    told_then told old between new watch.world.log log (subst (λ (t : Bool). HasTold t old between watch.world.log) untold before) after

pub told_still : (old new : Option (List ℕ)) (watch : Watch) (log : List Event) (e : Event) → watch.told ≡ true → log ≡ watch.world.log ++ e ∷ [] → HasTold watch.told old new watch.world.log → HasTold watch.told old new log
told_still old new watch log e was_told is before =
    subst (λ (l : List Event). HasTold watch.told old new l) (sym is) (subst (λ (t : Bool). HasTold t old new (watch.world.log ++ e ∷ [])) (sym was_told) (told_next old new watch.world.log e (subst (λ (t : Bool). HasTold t old new watch.world.log) was_told before)))

pub steps_on : (read remaining remaining' old between new : Option (List ℕ)) (watch watch' : Watch) (e : Event) → IsUnderWay read remaining old between watch → HasGiven read (watch.world.log ++ e ∷ []) watch'.reader remaining' → watch'.reader.bounds ≡ watch.reader.bounds → watch'.world.config ≡ watch.world.config → watch'.world.log ≡ watch.world.log ++ e ∷ [] → HasTold watch'.told old new watch'.world.log → Steps read old watch (Ok true) watch' remaining' new
steps_on read remaining remaining' old between new watch watch' e h given same config is told = (
  record {
    given = subst (λ (log : List Event). HasGiven read log watch'.reader remaining') (sym is) given;
    bounds = ap (λ (c : Config). c.bounds) config ∙ (h.bounds ∙ sym same);
    told = told;
  },
  (e, is),
)

part_then : (old between new : Option (List ℕ)) (log log' : List Event) → HasTold false old between log → TellsPart between new log' → TellsPart old new log'
part_then old between new log log' p q =
    (q.0, q.1, beginning_then old between new [] (alarm_line q.0) [] (alarm_line q.0) p.1 q.2 (sym (append-nil (alarm_line q.0))))

-- the event came about with those before it
pub came_next : (w w' : WorldState) (e : Event) → w'.config ≡ w.config → w'.log ≡ w.log ++ e ∷ [] → CameAbout w' → CameAbout (record w { log = w.log ++ e ∷ [] })
came_next w w' e config is came =
    record {
      well_formed = subst (λ (c : Config). IsWellFormed c.bounds (w.log ++ e ∷ [])) config (subst (λ (l : List Event). IsWellFormed w'.config.bounds l) is came.well_formed);
      room = subst (λ (c : Config). length (w.log ++ e ∷ []) ≤ c.events) config (subst (λ (l : List Event). length l ≤ w'.config.events) is came.room);
    }

pub fails_writing : (read remaining remaining' old between new : Option (List ℕ)) (watch watch' : Watch) (r : Result Bool WatchFault) (w : WorldState) (e : Event) → r ≡ Err Write → IsUnderWay read remaining old between watch
    → IsFront read watch.world.config.bounds (watch.world.log ++ e ∷ []) → watch.told ≡ false → w.config ≡ watch.world.config → w.log ≡ watch.world.log ++ e ∷ [] → CameAbout w → TellsPart between new w.log → Steps read old watch r watch' remaining' new
fails_writing read remaining remaining' old between new watch watch' r w e fails h front untold config is came part =
    let before : HasTold false old between watch.world.log = subst (λ (t : Bool). HasTold t old between watch.world.log) untold h.told in
    let all : FailsAfter read old new watch.world Write = (
      e,
      record {
        front = front;
        came = came_next watch.world w e config is came;
        no_cycle = before.0;
        part = subst (λ (l : List Event). TellsPart old new l) is (part_then old between new watch.world.log w.log before part);
      },
    ) in
    subst (λ (x : Result Bool WatchFault). Steps read old watch x watch' remaining' new) (sym fails) all

-- ---- failures

pub failed_reads : (fault : LogFault) (n : ℕ) → failures_after {X = Bool} (Err fault) n ≡ read_failures {X = Bool} (Err (Log fault)) n
failed_reads BadHeader n = refl
failed_reads (BadLine k) n = refl
failed_reads (Truncated k) n = refl
failed_reads TooLong n = refl
failed_reads Read n = refl
failed_reads Memory n = refl
