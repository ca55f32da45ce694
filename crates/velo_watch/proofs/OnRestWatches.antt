-- A watch of what is left of a log, event by event.
use Rattle.std.proofs.Common.{◌≡◌, ◌∙◌, ◌+◌, ◌≤◌, ℕ, true, not, List, [], ◌∷◌, ◌++◌, length, length-append, get_or, replicate, take, Option, Ok, Err, ap, arith, refl, subst, sym, ⊎_elim}
use Rattle.std.specs.Prelude.{slice_index}
use Rattle.std.proofs.Math.Seq.{take-append_seam}
use Rattle.std.proofs.lemmas.Bool.{cases_Bool}
use Rattle.std.proofs.lemmas.List.{append-nil, length-replicate}
use Rattle.velo_watch.proofs.OnEndless.{no_cycle}
use Rattle.velo_watch.specs.Whole.{IsWholeOf}
use Rattle.velo_events.specs.declared.config.Bounds.{Bounds}
use Rattle.velo_events.specs.declared.config.Config.{Config}
use Rattle.velo_events.specs.declared.event.Event.{Event}
use Rattle.velo_events.specs.Graph.{HasCycle}
use Rattle.velo_events.specs.WellFormed.{IsWellFormed}
use Rattle.velo_audit.proofs.OnAnswers.{length-places}
use Rattle.velo_filter.specs.Left.{Omitted, is_left_out, place_of, places_of, rest_of}
use Rattle.velo_filter.specs.Marks.{AreMarks}
use Rattle.velo_filter.proofs.OnThinned.{AreMarks-start}
use Rattle.velo_heap.specs.Contents.{bounds_of}
use Rattle.velo_logtext.specs.Reader.{HasGiven, ReaderState}
use Rattle.velo_traces.proofs.Past.{past}
use Rattle.velo_watch.specs.Watch.{IsFront}
use Rattle.velo_watch.specs.declared.fault.WatchFault.{WatchFault}
use Rattle.velo_watch.specs.declared.fault.WatchFault.TheVariants as watch_fault
use Rattle.velo_watch.proofs.OnWatches.{front_given}
use Rattle.velo_world.specs.declared.log_replay.LogReplayFault.{LogReplayFault}
use Rattle.velo_world.specs.declared.log_replay.LogReplayFault.TheVariants as replay
use Rattle.velo_watch.specs.Alarm.{Tells, TellsOrFails, TellsPart, TellsPartOfRest, TellsRest}
use Rattle.velo_watch.specs.Faults.{IsFaultOfRest}
use Rattle.velo_watch.specs.RestUnderWay.{CameAbout, CanGoOn, FailsAfter, IsRestOf, IsUnderWay, Steps}
use Rattle.velo_watch.specs.declared.rest.Rest.{Rest}
use Rattle.velo_watch.specs.declared.rest_watch.RestWatch.{RestWatch}
use Rattle.velo_watch.proofs.OnMore.{places-goes, places-stays, rest-goes, rest-stays}
use Rattle.velo_watch.proofs.OnTelling.{part_first, told_first, told_nothing, told_still, told_yet}

-- ---- no events

rest_nil : (omitted : Omitted) → rest_of omitted [] ≡ []
unfolding rest_of places_of
rest_nil omitted = refl

places_nil : (omitted : Omitted) → places_of omitted [] ≡ []
unfolding places_of
places_nil omitted = refl

pub quiet : (omitted : Omitted) → ¬ HasCycle (rest_of omitted [])
quiet omitted = subst (λ (es : List Event). ¬ HasCycle es) (sym (rest_nil omitted)) no_cycle

pub opened : (omitted : Omitted) (read remaining contents : Option (List ℕ)) (watch : RestWatch) → HasGiven read [] watch.reader remaining → watch.whole.trace.events ≡ [] → watch.rest.world.config.bounds ≡ watch.reader.bounds → IsUnderWay omitted read remaining contents contents watch
opened omitted read remaining contents watch given none bounds =
    record {
      given = subst (λ (es : List Event). HasGiven read es watch.reader remaining) (sym none) given;
      bounds = bounds;
      told = subst (λ (es : List Event). TellsRest omitted es contents contents) (sym none) (told_nothing (rest_of omitted []) (place_of omitted []) contents (quiet omitted));
    }

-- nothing is left of them
pub nothing_left : (omitted : Omitted) (rest : Rest) → rest.world.log ≡ [] → rest.places.items ≡ [] → rest.rows.items ≡ replicate 256 0 → IsRestOf omitted [] rest
nothing_left omitted rest events places rows =
    record {
      events = events ∙ sym (rest_nil omitted);
      places = places ∙ sym (places_nil omitted);
      as_many = ap length rows ∙ length-replicate {A = ℕ} 256 0;
      marks = subst (λ (ks : List ℕ). AreMarks omitted [] 0 ks) (sym rows) (AreMarks-start omitted [] 256);
    }

pub can_start : (omitted : Omitted) (watch : RestWatch) → IsWholeOf watch.whole.trace.events watch.whole.state → bounds_of watch.whole.state.heap ≡ watch.rest.world.config.bounds → watch.whole.trace.events ≡ [] → IsRestOf omitted [] watch.rest → CanGoOn omitted watch
can_start omitted watch whole bounds none rest =
    record {
      whole = whole;
      bounds = bounds;
      rest = subst (λ (es : List Event). IsRestOf omitted es watch.rest) (sym none) rest;
      room = subst (λ (es : List Event). length es ≤ watch.rest.world.config.events) (sym none) (omega arith);
    }

-- ---- one event more

-- what is left of the events with one more begins with what is left of them
record Grows (omitted : Omitted) (log all : List Event) : Type 0 where
  more : List Event
  others : List ℕ
  events : rest_of omitted all ≡ rest_of omitted log ++ more
  places : places_of omitted all ≡ places_of omitted log ++ others

grows : (omitted : Omitted) (log : List Event) (e : Event) → Grows omitted log (log ++ e ∷ [])
grows omitted log e =
    let all : List Event = log ++ e ∷ [] in
    let last : length all ≡ length log + 1 = length-append log (e ∷ []) in
    let same : take (length log) all ≡ log = take-append_seam log (e ∷ []) in
    ⊎_elim
    (λ h. record {
      more = get_or all (length log) past ∷ [];
      others = length log ∷ [];
      events = subst (λ (es : List Event). rest_of omitted all ≡ rest_of omitted es ++ get_or all (length log) past ∷ []) same (rest-stays omitted all (length log) last h);
      places = subst (λ (es : List Event). places_of omitted all ≡ places_of omitted es ++ length log ∷ []) same (places-stays omitted all (length log) last h);
    })
    (λ h. record {
      more = [];
      others = [];
      events = subst (λ (es : List Event). rest_of omitted all ≡ rest_of omitted es) same (rest-goes omitted all (length log) last h) ∙ sym (append-nil (rest_of omitted log));
      places = subst (λ (es : List Event). places_of omitted all ≡ places_of omitted es) same (places-goes omitted all (length log) last h) ∙ sym (append-nil (places_of omitted log));
    })
    (cases_Bool (not (is_left_out omitted all (length log))))

-- an alarm that was told is that of what is left of more events
still_told : (omitted : Omitted) (log : List Event) (e : Event) (old new : Option (List ℕ)) → HasCycle (rest_of omitted log) → TellsRest omitted log old new → TellsRest omitted (log ++ e ∷ []) old new
unfolding place_of
still_told omitted log e old new cycle told =
    let g = grows omitted log e in
    let both : Tells (rest_of omitted log ++ g.more) (slice_index (places_of omitted log ++ g.others)) old new =
    told_still (rest_of omitted log) g.more (places_of omitted log) g.others (length-places omitted log) old new cycle told in
    subst (λ (es : List Event). Tells es (slice_index (places_of omitted (log ++ e ∷ []))) old new) (sym g.events)
    (subst (λ (ks : List ℕ). Tells (rest_of omitted log ++ g.more) (slice_index ks) old new) (sym g.places) both)

-- what is told of a rest is told of the log
module _ (omitted : Omitted) (log : List Event) (rest : Rest) (is : IsRestOf omitted log rest) (old new : Option (List ℕ)) where
  told_of : Tells rest.world.log (slice_index rest.places.items) old new → TellsRest omitted log old new
  unfolding place_of
  told_of told =
      subst (λ (es : List Event). Tells es (slice_index (places_of omitted log)) old new) is.events
      (subst (λ (ks : List ℕ). Tells rest.world.log (slice_index ks) old new) is.places told)

  part_of : TellsPart rest.world.log (slice_index rest.places.items) old new → TellsPartOfRest omitted log old new
  unfolding place_of
  part_of part =
      subst (λ (es : List Event). TellsPart es (slice_index (places_of omitted log)) old new) is.events
      (subst (λ (ks : List ℕ). TellsPart rest.world.log (slice_index ks) old new) is.places part)

-- as many places as events
pub as_many : (omitted : Omitted) (log : List Event) (rest : Rest) → IsRestOf omitted log rest → length rest.places.items ≡ length rest.world.log
as_many omitted log rest is =
    ap length is.places ∙ (length-places omitted log ∙ sym (ap length is.events))

-- ---- a step

module _ (omitted : Omitted) (read remaining old between : Option (List ℕ)) (watch : RestWatch) (can : CanGoOn omitted watch) (h : IsUnderWay omitted read remaining old between watch) where
  abbrev log : List Event
  log = watch.whole.trace.events

  abbrev config : Config
  config = watch.rest.world.config

  formed : IsWellFormed config.bounds log
  formed = subst (λ (b : Bounds). IsWellFormed b log) can.bounds can.whole.heap.well_formed

  pub came : CameAbout omitted old between config log
  came = record { well_formed = formed; room = can.room; told = h.told }

  -- without a cycle in the rest so far nothing was told
  none_before : ¬ HasCycle watch.rest.world.log → ¬ HasCycle (rest_of omitted log)
  none_before none = subst (λ (es : List Event). ¬ HasCycle es) can.rest.events none

  module _ (e : Event) (reader : ReaderState) (remaining' : Option (List ℕ)) (given : HasGiven read (log ++ e ∷ []) reader remaining') (same : reader.bounds ≡ watch.reader.bounds) where
    pub front : IsFront read config.bounds (log ++ e ∷ [])
    front = subst (λ (b : Bounds). IsFront read b (log ++ e ∷ [])) (same ∙ sym h.bounds) (front_given read (log ++ e ∷ []) reader remaining' given)

    -- the next event cannot happen
    pub cannot : (fault : LogReplayFault) → IsFaultOfRest omitted config log e fault → FailsAfter omitted read old between config log (watch_fault.Replay fault)
    cannot fault is = (came, (e, front, is))

    -- it happened, and an alarm was told before
    module _ (watch' : RestWatch) (can' : CanGoOn omitted watch') (its : watch'.reader ≡ reader) (kept : watch'.rest.world.config ≡ config) (is : watch'.whole.trace.events ≡ log ++ e ∷ []) where
      under_way : (new : Option (List ℕ)) → TellsRest omitted (log ++ e ∷ []) old new → IsUnderWay omitted read remaining' old new watch'
      under_way new told =
          record {
            given = subst (λ (es : List Event). HasGiven read es watch'.reader remaining') (sym is) (subst (λ (r : ReaderState). HasGiven read (log ++ e ∷ []) r remaining') (sym its) given);
            bounds = ap (λ (c : Config). c.bounds) kept ∙ (h.bounds ∙ (sym same ∙ sym (ap (λ (r : ReaderState). r.bounds) its)));
            told = subst (λ (es : List Event). TellsRest omitted es old new) (sym is) told;
          }

      rest' : IsRestOf omitted (log ++ e ∷ []) watch'.rest
      rest' = subst (λ (es : List Event). IsRestOf omitted es watch'.rest) is can'.rest

      pub goes_on : HasCycle watch.rest.world.log → Steps omitted read old watch (Ok true) watch' remaining' between
      goes_on cycle = (under_way between (still_told omitted log e old between (subst (λ (es : List Event). HasCycle es) can.rest.events cycle) h.told), (e, is))

      -- none was told before
      module _ (none : ¬ HasCycle watch.rest.world.log) (new : Option (List ℕ)) where
        pub tells : Tells watch'.rest.world.log (slice_index watch'.rest.places.items) between new → Steps omitted read old watch (Ok true) watch' remaining' new
        tells told =
            (under_way new (told_first (rest_of omitted log) (place_of omitted log) old between (none_before none) h.told (rest_of omitted (log ++ e ∷ [])) (place_of omitted (log ++ e ∷ [])) new (told_of omitted (log ++ e ∷ []) watch'.rest rest' between new told)), (e, is))

        pub fails : (fault : WatchFault) → TellsOrFails watch'.rest.world.log (slice_index watch'.rest.places.items) between new {X = Unit {0}} (Err fault) → FailsAfter omitted read old new config log fault
        fails watch_fault.Write part = (
          e,
          record {
            front = front;
            well_formed = subst (λ (c : Config). IsWellFormed c.bounds (log ++ e ∷ [])) kept (subst (λ (es : List Event). IsWellFormed watch'.rest.world.config.bounds es) is (subst (λ (b : Bounds). IsWellFormed b watch'.whole.trace.events) can'.bounds can'.whole.heap.well_formed));
            room = subst (λ (c : Config). length (log ++ e ∷ []) ≤ c.events) kept (subst (λ (es : List Event). length es ≤ watch'.rest.world.config.events) is can'.room);
            no_cycle = none_before none;
            part = part_first (rest_of omitted log) (place_of omitted log) old between (none_before none) h.told (rest_of omitted (log ++ e ∷ [])) (place_of omitted (log ++ e ∷ [])) new (part_of omitted (log ++ e ∷ []) watch'.rest rest' between new part);
          },
        )
        fails (watch_fault.Replay replay.Memory) (refused, wrote) = (
          record { well_formed = formed; room = can.room; told = told_yet (rest_of omitted log) (place_of omitted log) old between new h.told wrote },
          (e, front, refused),
        )
        fails (watch_fault.Replay (replay.Refused p r)) is = absurd is
        fails (watch_fault.Replay (replay.WrongValue p)) is = absurd is
        fails (watch_fault.Log fault) is = absurd is
