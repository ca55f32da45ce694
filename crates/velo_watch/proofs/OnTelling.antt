-- What is told of what is left of a log, event by event.
use Rattle.std.proofs.Common.{◌≡◌, ◌∙◌, ◌<◌, ℕ, List, [], ◌++◌, length, map, Option, Some, None, ap, refl, subst, sym}
use Rattle.std.specs.Prelude.{slice_index, option_map}
use Rattle.std.specs.Io.KnownBytes.{Appends}
use Rattle.std.proofs.lemmas.List.{append-nil, get_or_append_left}
use Rattle.std.proofs.lemmas.Option.{get_or_from_slice_get, slice_get_within}
use Rattle.velo_events.specs.declared.event.Event.{Event}
use Rattle.velo_events.specs.Graph.{HasCycle}
use Rattle.velo_events.proofs.OnGraphs.{HasCycle-from_closing}
use Rattle.velo_bytes.specs.Device.{AppendsBeginning}
use Rattle.velo_bytes.proofs.OnDevices.{appends_nothing, appends_then, beginning_then}
use Rattle.velo_traces.specs.declared.block.Block.{Block}
use Rattle.velo_audit.specs.Witness.{block_as_read}
use Rattle.velo_audit.proofs.OnTold.{blamed-within, transaction-within}
use Rattle.velo_watch.proofs.OnEndless.{no_cycle}
use Rattle.velo_report.specs.Alarm.{alarm_line}
use Rattle.velo_watch.specs.Watch.{told_text}
use Rattle.velo_world.proofs.OnAlarms.{IsAlarm-append}
use Rattle.velo_world.specs.World.{AlarmOf, IsAlarm}
use Rattle.velo_world.specs.declared.analysis.Alarm.{Alarm}
use Rattle.velo_watch.specs.Alarm.{IsAlarmAsRead, IsAlarmWithin, IsMoved, Tells, TellsPart, alarm_as_read}
use Rattle.velo_watch.proofs.OnMore.{map_alike}

-- ---- an alarm at other positions

-- its positions are those of events
pub within : (rest : List Event) (alarm : Alarm) → IsAlarm rest alarm → IsAlarmWithin (length rest) alarm
within rest alarm is = record { position = is.closing.in_trace; transaction = transaction-within rest alarm is; blamed = blamed-within rest alarm is }

line_same : (one other : Alarm) → one.position ≡ other.position → one.blamed.items ≡ other.blamed.items → alarm_line one ≡ alarm_line other
line_same one other position blamed = rw (position, blamed) refl

pub line_moved : (place : ℕ → ℕ) (alarm moved : Alarm) → IsMoved place alarm moved → alarm_line moved ≡ alarm_line (alarm_as_read place alarm)
line_moved place alarm moved is = line_same moved (alarm_as_read place alarm) is.position is.blamed

-- places that agree below n read an alarm alike whose positions are
as_read_same : (place others : ℕ → ℕ) (n : ℕ) (alarm : Alarm) → ((i : ℕ) → i < n → place i ≡ others i) → IsAlarmWithin n alarm → alarm_as_read place alarm ≡ alarm_as_read others alarm
as_read_same place others n alarm same within =
    let blocks : map (block_as_read place) alarm.blamed.items ≡ map (block_as_read others) alarm.blamed.items =
    map_alike (block_as_read place) (block_as_read others) alarm.blamed.items (λ j block here.
    let below : block.first < n = subst (λ (b : Block). b.first < n) (get_or_from_slice_get alarm.blamed.items j block block here) (within.blamed j block (slice_get_within alarm.blamed.items j block here)) in
    ap (λ (k : ℕ). record { first = k; label = block.label }) (same block.first below)) in
    ap (λ (k : ℕ). record { position = k; transaction = place alarm.transaction; blamed = record alarm.blamed { items = map (block_as_read place) alarm.blamed.items } }) (same alarm.position within.position)
    ∙ (ap (λ (k : ℕ). record { position = others alarm.position; transaction = k; blamed = record alarm.blamed { items = map (block_as_read place) alarm.blamed.items } }) (same alarm.transaction within.transaction)
    ∙ ap (λ (bs : List Block). record { position = others alarm.position; transaction = others alarm.transaction; blamed = record alarm.blamed { items = bs } }) blocks)

-- ---- no events

pub told_nothing : (rest : List Event) (place : ℕ → ℕ) (contents : Option (List ℕ)) → ¬ HasCycle rest → Tells rest place contents contents
told_nothing rest place contents none =
    record { alarm = None; exact = record { own = None; exact = none; moved = refl }; appends = appends_nothing contents }

pub told_none : (place : ℕ → ℕ) (contents : Option (List ℕ)) → Tells [] place contents contents
told_none place contents = told_nothing [] place contents no_cycle

-- ---- the alarm, once it is raised

pub told_alarm : (rest : List Event) (place : ℕ → ℕ) (old new : Option (List ℕ)) (alarm moved : Alarm) → IsAlarm rest alarm → IsMoved place alarm moved → Appends old new (alarm_line moved) → Tells rest place old new
told_alarm rest place old new alarm moved exact is wrote =
    record {
      alarm = Some (alarm_as_read place alarm);
      exact = record { own = Some alarm; exact = exact; moved = refl };
      appends = subst (λ (text : List ℕ). Appends old new text) (line_moved place alarm moved is) wrote;
    }

pub part_of_alarm : (rest : List Event) (place : ℕ → ℕ) (old new : Option (List ℕ)) (alarm moved : Alarm) → IsAlarm rest alarm → IsMoved place alarm moved → AppendsBeginning old new (alarm_line moved) → TellsPart rest place old new
part_of_alarm rest place old new alarm moved exact is wrote =
    record {
      alarm = alarm_as_read place alarm;
      exact = record { own = Some alarm; exact = exact; moved = refl };
      begins = subst (λ (text : List ℕ). AppendsBeginning old new text) (line_moved place alarm moved is) wrote;
    }

-- ---- what was told before, where there is a cycle

module _ (rest more : List Event) (places others : List ℕ) (as_many : length places ≡ length rest) where
  agree : (i : ℕ) → i < length rest → slice_index places i ≡ slice_index (places ++ others) i
  agree i l = sym (get_or_append_left places others 0 i (subst (λ (n : ℕ). i < n) (sym as_many) l))

  still : (own alarm : Option Alarm) → AlarmOf rest own → alarm ≡ option_map (alarm_as_read (slice_index places)) own → HasCycle rest → IsAlarmAsRead (rest ++ more) (slice_index (places ++ others)) alarm
  still None alarm none is cycle = absurd (none cycle)
  still (Some a) alarm exact is cycle =
      record {
        own = Some a;
        exact = IsAlarm-append rest more a exact;
        moved = is ∙ ap (λ (b : Alarm). Some b) (as_read_same (slice_index places) (slice_index (places ++ others)) (length rest) a agree (within rest a exact));
      }

  pub told_still : (old new : Option (List ℕ)) → HasCycle rest → Tells rest (slice_index places) old new → Tells (rest ++ more) (slice_index (places ++ others)) old new
  told_still old new cycle told =
      record { alarm = told.alarm; exact = still told.exact.own told.alarm told.exact.exact told.exact.moved cycle; appends = told.appends }

-- ---- what was told before, where there is none

module _ (rest : List Event) (place : ℕ → ℕ) (old between : Option (List ℕ)) (none : ¬ HasCycle rest) (before : Tells rest place old between) where
  no_text : (own alarm : Option Alarm) → AlarmOf rest own → alarm ≡ option_map (alarm_as_read place) own → told_text alarm ≡ []
  no_text None alarm exact is = ap told_text is
  no_text (Some a) alarm exact is = absurd (none (HasCycle-from_closing rest a.position exact.closing))

  nothing : Appends old between []
  nothing = subst (λ (text : List ℕ). Appends old between text) (no_text before.exact.own before.alarm before.exact.exact before.exact.moved) before.appends

  -- what is told then is told in all
  pub told_first : (all : List Event) (places : ℕ → ℕ) (new : Option (List ℕ)) → Tells all places between new → Tells all places old new
  told_first all places new told =
      record { alarm = told.alarm; exact = told.exact; appends = appends_then old between new [] (told_text told.alarm) nothing told.appends }

  pub part_first : (all : List Event) (places : ℕ → ℕ) (new : Option (List ℕ)) → TellsPart all places between new → TellsPart all places old new
  part_first all places new told =
      record {
        alarm = told.alarm;
        exact = told.exact;
        begins = beginning_then old between new [] (alarm_line told.alarm) [] (alarm_line told.alarm) nothing told.begins (sym (append-nil (alarm_line told.alarm)));
      }

-- where nothing went out since, the same is told
pub told_yet : (rest : List Event) (place : ℕ → ℕ) (old between new : Option (List ℕ)) → Tells rest place old between → Appends between new [] → Tells rest place old new
told_yet rest place old between new told wrote =
    record {
      alarm = told.alarm;
      exact = told.exact;
      appends = subst (λ (text : List ℕ). Appends old new text) (append-nil (told_text told.alarm)) (appends_then old between new (told_text told.alarm) [] told.appends wrote);
    }
