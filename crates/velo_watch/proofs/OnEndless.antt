-- What a watch without end has told, event by event.
use Rattle.std.proofs.Common.{◌≡◌, ℕ, ◌+◌, ◌<◌, ◌≤◌, Bool, true, false, List, [], ◌∷◌, ◌++◌, length, Option, Some, None, Result, Ok, Err, refl, sym, ap, ◌∙◌, subst, append_assoc, length-append, arith}
use Rattle.std.specs.Prelude.{IsTrue, IsFalse, is_some, IfErr, OnOk, OnErr}
use Rattle.std.specs.Option.{option_copied}
use Rattle.std.specs.Io.KnownBytes.{Appends}
use Rattle.std.proofs.lemmas.Bool.{false≢true}
use Rattle.std.proofs.lemmas.List.{append-nil}
use Rattle.velo_events.specs.declared.config.Bounds.{Bounds}
use Rattle.velo_events.specs.declared.config.Config.{Config}
use Rattle.velo_events.specs.declared.event.Event.{Event}
use Rattle.velo_events.specs.Graph.{Edge, IsCycle, HasCycle}
use Rattle.velo_events.specs.WellFormed.{IsWellFormed, MayFollow}
use Rattle.velo_events.proofs.OnWellFormed.{IsWellFormed-push}
use Rattle.velo_traces.specs.Flaws.{flaw_of}
use Rattle.velo_traces.proofs.OnFlaws.{MayFollow-from_no_flaw}
use Rattle.velo_heap.specs.Contents.{bounds_of}
use Rattle.velo_logtext.specs.declared.fault.LogFault.{LogFault}
use Rattle.velo_logtext.specs.declared.fault.LogFault.TheVariants.{BadHeader, BadLine, Truncated, TooLong, Read, Memory}
use Rattle.velo_logtext.specs.Reader.{ReaderState}
use Rattle.velo_logtext.specs.Text.{text_in}
use Rattle.velo_bytes.specs.Device.{AppendsBeginning}
use Rattle.velo_bytes.proofs.OnDevices.{appends_then, appends_nothing, beginning_then}
use Rattle.velo_report.specs.Alarm.{alarm_line}
use Rattle.velo_watch.specs.Watch.{IsFront, Tells, told_text}
use Rattle.velo_watch.specs.UnderWay.{TellsPart}
use Rattle.velo_world.specs.declared.analysis.Alarm.{Alarm}
use Rattle.velo_events.specs.Refusals.{GrowthRefused}
use Rattle.velo_world.specs.declared.log_replay.LogReplayFault.{LogReplayFault}
use Rattle.velo_world.specs.declared.log_replay.LogReplayFault.TheVariants as replay
use Rattle.velo_world.specs.World.{IsAlarm, AlarmOf}
use Rattle.velo_world.proofs.OnAlarms.{AlarmOf-stays}
use Rattle.velo_watch.specs.declared.piece.LogPiece.{LogPiece}
use Rattle.velo_watch.specs.declared.long.TheConstants.{MAX_WATCHED}
use Rattle.velo_watch.specs.declared.endless.EndlessWatch.{EndlessWatch}
use Rattle.velo_watch.specs.declared.summary.Whole.{Whole}
use Rattle.velo_watch.specs.Endless.{CanGoOn, CanTakeIn, HasJudged, Judges, TellsPartOf}
use Rattle.velo_watch.specs.Kept.{IsFaultBehind}
use Rattle.velo_watch.specs.Piece.{CanFollow, IsJudged, IsPieceOf, IsCutInTime}
use Rattle.velo_watch.specs.Reading.{HasRead}
use Rattle.velo_watch.specs.Whole.{IsNext, IsWholeOf}

-- ---- no events

pub no_cycle : ¬ HasCycle []
no_cycle has = none has.cycle has.is_cycle
  where
    none : (cycle : List ℕ) → IsCycle (Edge []) cycle → ⊥
    none [] h = h
    none (a ∷ []) h = h
    none (a ∷ b ∷ rest) h = first rest h
      where
        first : (rest : List ℕ) → IsCycle (Edge []) (a ∷ b ∷ rest) → ⊥
        first [] h = let e : Edge [] a b = h.0 in omega (arith, e.in_trace)
        first (c ∷ cs) h = let e : Edge [] a b = h.0 in omega (arith, e.in_trace)

-- the events that were judged came about
pub well_judged : (log : List Event) (watch : EndlessWatch) → HasJudged log watch → IsWellFormed watch.piece.world.config.bounds log
well_judged log watch h = subst (λ (b : Bounds). IsWellFormed b log) h.bounds h.whole.heap.well_formed

-- ---- what was told

pub alarm_judged : (log : List Event) (piece : LogPiece) (alarm : Option Alarm) → IsJudged log piece alarm → AlarmOf log alarm
alarm_judged log piece None h = h.0
alarm_judged log piece (Some a) h = h

pub tells : (old new : Option (List ℕ)) (log : List Event) (piece : LogPiece) (alarm : Option Alarm) → IsJudged log piece alarm → Appends old new (told_text alarm) → Tells old new log
tells old new log piece alarm h told = record { alarm = alarm; exact = alarm_judged log piece alarm h; appends = told }

-- of the input, the events stand at the front
pub front_read : (read : Option (List ℕ)) (events : List Event) (r : ReaderState) (remaining : Option (List ℕ)) (bounds : Bounds) → bounds ≡ r.bounds → HasRead read events r remaining → IsFront read bounds events
front_read None events r remaining bounds same h = tt
front_read (Some all) events r None bounds same h = absurd h.text
front_read (Some all) events r (Some more) bounds same h = subst (λ (b : Bounds). IsFront (Some all) b events) (sym same)
    (r.shares, r.held ++ more, record { bounds_fit = h.bounds_fit; events_fit = h.events_fit; text = sym h.text ∙ append_assoc (text_in r.shares r.bounds events) r.held more })

-- nothing was told before, and the alarm now
pub told_first : (old between new : Option (List ℕ)) (was alarm : Option Alarm) → IsFalse (is_some was) → Appends old between (told_text was) → Appends between new (told_text alarm) → Appends old new (told_text alarm)
told_first old between new None alarm none p q = appends_then old between new [] (told_text alarm) p q
told_first old between new (Some a) alarm none p q = absurd (false≢true (sym none))

part_first : (old between new : Option (List ℕ)) (line : List ℕ) → Appends old between [] → AppendsBeginning between new line → AppendsBeginning old new line
part_first old between new line p q = beginning_then old between new [] line [] line p q (sym (append-nil line))

pub part_told : (old between new : Option (List ℕ)) (log : List Event) (piece : LogPiece) (was alarm : Option Alarm) → IsFalse (is_some was) → Appends old between (told_text was) → IsJudged log piece alarm → TellsPartOf alarm between new → TellsPart old new log
part_told old between new log piece (Some a) alarm none p h q = absurd (false≢true (sym none))
part_told old between new log piece None None none p h q = absurd q
part_told old between new log piece None (Some a) none p h q = (a, h, part_first old between new (alarm_line a) p q)

pub no_cycle_before : (log : List Event) (piece : LogPiece) (was : Option Alarm) → IsFalse (is_some was) → IsJudged log piece was → ¬ HasCycle log
no_cycle_before log piece None none h = h.0
no_cycle_before log piece (Some a) none h = absurd (false≢true (sym none))

pub piece_before : (log : List Event) (piece : LogPiece) (was : Option Alarm) → IsFalse (is_some was) → IsJudged log piece was → IsPieceOf log piece
piece_before log piece None none h = h.1
piece_before log piece (Some a) none h = absurd (false≢true (sym none))

pub none_is : (was : Option Alarm) → IsFalse (is_some was) → was ≡ None
none_is None none = refl
none_is (Some a) none = absurd (false≢true (sym none))

-- an alarm stays
pub judged_still : (log : List Event) (e : Event) (piece : LogPiece) (alarm : Option Alarm) → IsTrue (is_some alarm) → IsJudged log piece alarm → IsJudged (log ++ e ∷ []) piece alarm
judged_still log e piece None some h = absurd (false≢true some)
judged_still log e piece (Some a) some h = AlarmOf-stays log e (Some a) refl h

pub not_in_time : (log : List Event) (piece : LogPiece) (alarm : Option Alarm) → IsTrue (is_some alarm) → alarm ≡ None → IsCutInTime log piece
not_in_time log piece None some is = absurd (false≢true some)
not_in_time log piece (Some a) some is = absurd cc

-- ---- an event without a flaw may come next

pub follows : (w : Whole) (log : List Event) (e : Event) → IsWholeOf log w → flaw_of (bounds_of w.heap) log e ≡ None → MayFollow (bounds_of w.heap) log e
follows w log e is none = MayFollow-from_no_flaw (bounds_of w.heap) log e is.heap.well_formed none

pub next_of : (w : Whole) (log : List Event) (e : Event) → IsWholeOf log w → flaw_of (bounds_of w.heap) log e ≡ None → length log ≤ MAX_WATCHED → IsNext w e
next_of w log e is none few = record { log = log; is = is; follows = follows w log e is none; few = few }

pub well_next : (w : Whole) (log : List Event) (e : Event) (bounds : Bounds) → bounds_of w.heap ≡ bounds → IsWholeOf log w → flaw_of (bounds_of w.heap) log e ≡ None → IsWellFormed bounds (log ++ e ∷ [])
well_next w log e bounds same is none =
    subst (λ (b : Bounds). IsWellFormed b (log ++ e ∷ [])) same (IsWellFormed-push (bounds_of w.heap) log e is.heap.well_formed (follows w log e is none))

-- ---- a watch goes on with the event

pub takes_in : (can : EndlessWatch) (watch : EndlessWatch) (e : Event) → CanTakeIn can → ((log : List Event) → IsWholeOf log can.whole → IsWholeOf (log ++ e ∷ []) watch.whole) → bounds_of watch.whole.heap ≡ bounds_of can.whole.heap → CanFollow watch.piece → watch.piece.world.config ≡ can.piece.world.config → watch.reader ≡ can.reader → CanGoOn watch
takes_in can watch e h next bounds piece config reader = record {
  piece = piece;
  bounds = bounds ∙ (h.bounds ∙ sym (ap (λ (c : Config). c.bounds) config));
  log = h.log ++ e ∷ [];
  whole = next h.log h.whole;
  few = let less = h.few in let same = ap (λ (r : ReaderState). r.given) reader in omega (arith, less, same, length-append h.log (e ∷ []));
}

-- the event was judged, and whatever came of the cut
pub judges_cut : (log : List Event) (e : Event) (old new : EndlessWatch) (r : Result (Unit {0}) LogReplayFault) → IsWholeOf (log ++ e ∷ []) new.whole → bounds_of new.whole.heap ≡ new.piece.world.config.bounds → new.alarm ≡ None → ¬ HasCycle (log ++ e ∷ [])
    → OnOk r (IsPieceOf (log ++ e ∷ []) new.piece) → OnOk r (IsCutInTime (log ++ e ∷ []) new.piece) → IfErr r (λ fault. fault ≡ replay.Memory) → OnErr r GrowthRefused → Judges log e old r new
judges_cut log e old new (Ok x) whole bounds none acyclic piece in_time fault refused = record {
  whole = whole;
  bounds = bounds;
  judged = subst (IsJudged (log ++ e ∷ []) new.piece) (sym none) (acyclic, piece);
  in_time = λ is. in_time;
}
judges_cut log e old new (Err f) whole bounds none acyclic piece in_time fault refused = subst (IsFaultBehind old.piece.world.config log e) (sym fault) refused
