-- What is kept of a log without end, as events come and as it is cut.
use Rattle.std.proofs.Common.{◌≡◌, ℕ, ◌+◌, ◌<◌, ◌≤◌, List, [], ◌∷◌, ◌++◌, length, take, drop, Option, Some, None, Result, Ok, Err, inl, inr, refl, sym, ap, ◌∙◌, subst, append_assoc, length-append, arith, ⊎_elim}
use Rattle.std.specs.Prelude.{◌↔◌, ◌⊎◌, IfOk, IfErr, OnErr}
use Rattle.std.proofs.lemmas.Bool.{cases_lt}
use Rattle.std.proofs.lemmas.List.{append-nil, length-take-le, take-append-drop, take-append-le, take_all}
use Rattle.std.proofs.lemmas.Option.{none-some}
use Rattle.velo_events.specs.declared.config.Bounds.{Bounds}
use Rattle.velo_events.specs.declared.config.Config.{Config}
use Rattle.velo_events.specs.declared.event.Event.{Event}
use Rattle.velo_events.specs.declared.limits.TheConstants.{MAX_EVENTS}
use Rattle.velo_events.specs.declared.refusal.Refusal.{Refusal}
use Rattle.velo_events.specs.declared.refusal.Refusal.TheVariants.{LogFull, GraphFull}
use Rattle.velo_events.specs.Block.{passes_at}
use Rattle.velo_events.specs.Graph.{HasCycle}
use Rattle.velo_events.specs.Refusals.{GrowthRefused}
use Rattle.velo_events.specs.WellFormed.{IsWellFormed}
use Rattle.velo_events.proofs.OnWellFormed.{IsWellFormed-nil, IsWellFormed-before, IsWellFormed-last}
use Rattle.velo_traces.specs.declared.judge.Flaw.{Flaw}
use Rattle.velo_traces.specs.Flaws.{flaw_of}
use Rattle.velo_traces.proofs.OnFlaws.{no_flaw-from_MayFollow}
use Rattle.velo_laws.specs.Cut.{NoBlockOpen, IsQuiet}
use Rattle.velo_laws.specs.Length.{events_to_leave}
use Rattle.velo_laws.specs.Restart.{HasNoBegin, IsPrologueOf}
use Rattle.velo_laws.proofs.OnCut.{IsQuiet-from}
use Rattle.velo_laws.proofs.OnCutCycles.{HasCycle-cut}
use Rattle.velo_laws.proofs.OnRestart.{goes_on_law, prologue_law}
use Rattle.velo_laws.specs.declared.renewal.NotRenewed.{NotRenewed}
use Rattle.velo_laws.specs.declared.renewal.NotRenewed.TheVariants as not_renewed
use Rattle.velo_laws.specs.Renewal.{Restarts, StandsInTheWay}
use Rattle.velo_world.specs.declared.analysis.Alarm.{Alarm}
use Rattle.velo_world.specs.declared.log_replay.LogReplayFault.{LogReplayFault}
use Rattle.velo_world.specs.declared.log_replay.LogReplayFault.TheVariants.{Refused, WrongValue, Memory}
use Rattle.velo_world.specs.Faults.{IsFaultAtEvent, IsLimit}
use Rattle.velo_world.specs.World.{IsAlarm}
use Rattle.velo_watch.specs.declared.piece.LogPiece.{LogPiece}
use Rattle.velo_watch.specs.Kept.{IsKept, IsKeptInTime, CannotBeCut, WasCutInTime, IsFaultBehind, IsLimitBehind}
use Rattle.velo_watch.specs.Piece.{AllLieBehind, BeginsWithPrologue, Follows, IsCutInTime, IsInWhole, IsJudged, IsPieceOf, in_whole, moved_fault}
use Rattle.velo_watch.proofs.OnAlarms.{all_behind, alarm_moved}

-- ---- the first events of the kept ones

pub nothing_begins : HasNoBegin []
unfolding passes_at
nothing_begins i = refl

pub prologue_alone : (log : List Event) → HasNoBegin log → BeginsWithPrologue log (length log)
prologue_alone log none = record { within = omega arith; no_begin = subst HasNoBegin (sym (take_all (length log) log (omega arith))) none }

-- ---- what is kept, and the whole

module _ (bounds : Bounds) (whole kept : List Event) (before_length prologue_length : ℕ) (k : IsKept bounds whole kept before_length prologue_length) where
  quiet : IsQuiet k.before
  quiet = IsQuiet-from bounds k.before k.well_formed k.ended

  -- the whole has a cycle where what is kept has one
  pub cycle_kept : HasCycle whole → HasCycle kept
  cycle_kept c =
      let own = prologue_law k.prologue k.stands.no_begin in
      let after : HasCycle k.after = ⊎_elim (λ b. absurd (k.no_cycle b)) (λ a. a) ((HasCycle-cut k.before k.after quiet).0 (subst HasCycle k.whole_is c)) in
      subst HasCycle (sym k.kept_is) ((HasCycle-cut k.prologue k.after own.1).1 (inr after))

  -- an event more is kept
  pub kept_more : (e : Event) → IsKept bounds (whole ++ e ∷ []) (kept ++ e ∷ []) before_length prologue_length
  kept_more e = record {
    before = k.before;
    prologue = k.prologue;
    after = k.after ++ e ∷ [];
    whole_is = ap (λ xs. xs ++ e ∷ []) k.whole_is ∙ append_assoc k.before k.after (e ∷ []);
    kept_is = ap (λ xs. xs ++ e ∷ []) k.kept_is ∙ append_assoc k.prologue k.after (e ∷ []);
    well_formed = k.well_formed;
    ended = k.ended;
    no_cycle = k.no_cycle;
    stands = k.stands;
    counted = k.counted;
    measured = k.measured;
    short = k.short;
  }

  -- if the whole can come about, so can what is kept
  pub well_kept : IsWellFormed bounds whole → IsWellFormed bounds kept
  well_kept well =
      let own = prologue_law k.prologue k.stands.no_begin in
      subst (IsWellFormed bounds) (sym k.kept_is)
      (goes_on_law bounds k.before k.prologue k.after k.well_formed k.stands.well_formed k.ended own.0 k.stands.stands (subst (IsWellFormed bounds) k.whole_is well))

  -- the position of its end
  pub end_kept : in_whole before_length prologue_length (length kept) ≡ length whole
  end_kept =
      let a = ap length k.whole_is ∙ length-append k.before k.after in
      let b = ap length k.kept_is ∙ length-append k.prologue k.after in
      omega (arith, a, b, k.counted, k.measured)

  pub alarm_kept : (alarm moved : Alarm) → IsAlarm kept alarm → IsInWhole before_length prologue_length alarm moved → IsAlarm whole moved
  alarm_kept alarm moved h is =
      let own = prologue_law k.prologue k.stands.no_begin in
      subst (λ log. IsAlarm log moved) (sym k.whole_is)
      (alarm_moved k.before k.prologue k.after quiet k.no_cycle own.1 own.2 alarm moved (subst (λ log. IsAlarm log alarm) k.kept_is h)
      (subst (λ n. IsInWhole n (length k.prologue) alarm moved) k.counted (subst (λ n. IsInWhole before_length n alarm moved) k.measured is)))

-- of no events none are kept
pub kept_none : (bounds : Bounds) (log : List Event) → log ≡ [] → ¬ HasCycle [] → NoBlockOpen [] → IsPrologueOf bounds [] [] → IsKept bounds [] log 0 0
kept_none bounds log is none ended stands = record {
  before = [];
  prologue = [];
  after = [];
  whole_is = refl;
  kept_is = is;
  well_formed = IsWellFormed-nil bounds;
  ended = ended;
  no_cycle = none;
  stands = stands;
  counted = refl;
  measured = refl;
  short = omega arith;
}

-- a prologue of no events stands for none
pub nothing_stands : (bounds : Bounds) → IsPrologueOf bounds [] []
nothing_stands bounds = record {
  well_formed = IsWellFormed-nil bounds;
  no_begin = nothing_begins;
  stands = record { values = λ x. refl; holders = λ m. refl; sharers = λ m t. refl; threads = λ t not. refl };
  short = omega arith;
}

pub nothing_open : NoBlockOpen []
nothing_open = (prologue_law [] nothing_begins).0

pub nothing_closes : ¬ HasCycle []
nothing_closes = (prologue_law [] nothing_begins).2

-- and what is kept of none is not late
pub nothing_late : (piece : LogPiece) → IsPieceOf [] piece → piece.world.log ≡ [] → IsCutInTime [] piece
nothing_late piece k none = record {
  since = λ n within half.
      let some = piece.world.config.some_event in
      let kept : 0 ≡ length k.prologue + length k.after = sym (ap length none) ∙ ap length k.kept_is ∙ length-append k.prologue k.after in
      absurd (omega (arith, within, half, some, kept, k.measured));
}

-- the positions of the alarm of a log that begins with a prologue
pub alarm_lies : (log : List Event) (n : ℕ) (alarm : Alarm) → BeginsWithPrologue log n → length log ≤ MAX_EVENTS → IsAlarm log alarm → AllLieBehind n alarm
alarm_lies log n alarm h few is =
    let same : take n log ++ drop n log ≡ log = take-append-drop n log in
    let own = prologue_law (take n log) h.no_begin in
    all_behind (take n log) (drop n log) own.1 own.2 n alarm (sym (length-take-le n log h.within)) (subst (λ l. length l ≤ MAX_EVENTS) (sym same) few) (subst (λ l. IsAlarm l alarm) (sym same) is)

-- ---- a cut

pub kept_cut : (bounds : Bounds) (whole made : List Event) (before_length : ℕ) → IsWellFormed bounds whole → ¬ HasCycle whole → length whole ≡ before_length → Restarts bounds whole made → IsKept bounds whole made before_length (length made)
kept_cut bounds whole made before_length well none count h = record {
  before = whole;
  prologue = made;
  after = [];
  whole_is = sym (append-nil whole);
  kept_is = sym (append-nil made);
  well_formed = well;
  ended = h.ended;
  no_cycle = none;
  stands = h.prologue;
  counted = sym count;
  measured = refl;
  short = omega (arith, h.length);
}

module _ (config : Config) (whole : List Event) (before_length prologue_length : ℕ) where
  -- where it is not late, it never was since the cut
  pub never_late : (kept : List Event) → IsKept config.bounds whole kept before_length prologue_length → (prologue_length + config.events ≤ length kept + length kept → ⊥) → WasCutInTime config whole before_length prologue_length
  never_late kept k early = record {
    since = λ n within half.
        let a = ap length k.whole_is ∙ length-append k.before k.after in
        let b = ap length k.kept_is ∙ length-append k.prologue k.after in
        absurd (early (omega (arith, within, half, a, b, k.counted, k.measured)));
  }

  -- a cut that was made just now
  pub late_cut : (made : List Event) → length whole ≡ before_length → length made ≡ prologue_length → Restarts config.bounds whole made → WasCutInTime config whole before_length prologue_length
  late_cut made count long h = record {
    since = λ n within half.
        subst (CannotBeCut config) (sym (take_all (before_length + n) whole (omega (arith, count)))) (inr (omega (arith, within, half, count, long, h.length)));
  }

  -- one that is not possible
  pub late_still : (log : List Event) (e : Event) → whole ≡ log ++ e ∷ [] → WasCutInTime config log before_length prologue_length → CannotBeCut config whole → WasCutInTime config whole before_length prologue_length
  late_still log e is was none = record {
    since = λ n within half. ⊎_elim
        (λ before.
        let earlier : before_length + n ≤ length log = omega (arith, before, ap length is, length-append log (e ∷ [])) in
        subst (CannotBeCut config) (sym (ap (take (before_length + n)) is ∙ take-append-le (before_length + n) log (e ∷ []) earlier)) (was.since n earlier half))
        (λ here. subst (CannotBeCut config) (sym (take_all (before_length + n) whole here)) none)
        (cases_lt (before_length + n) (length whole));
  }

pub cut_late : (config : Config) (whole made : List Event) → Restarts config.bounds whole made → length made + config.events ≤ length made + length made → CannotBeCut config whole
cut_late config whole made h late = inr (omega (arith, late, h.length))

pub not_cut : (config : Config) (whole : List Event) (reason : NotRenewed) → StandsInTheWay config whole reason → (reason ≡ not_renewed.Memory → ⊥) → CannotBeCut config whole
not_cut config whole not_renewed.Alarm h other = absurd h
not_cut config whole (not_renewed.BlockOpen t) h other = inl (t.0, h.is_open)
not_cut config whole not_renewed.LogFull h other = let long = h.1 in inr (omega (arith, long))
not_cut config whole not_renewed.Memory h other = absurd (other refl)

-- ---- an event that does not come next

module _ (config : Config) (whole kept : List Event) (before_length prologue_length : ℕ) (e : Event) (k : IsKept config.bounds whole kept before_length prologue_length) (in_time : WasCutInTime config whole before_length prologue_length) (none : ¬ HasCycle whole) (well : IsWellFormed config.bounds (whole ++ e ∷ [])) where
  well_next : IsWellFormed config.bounds (kept ++ e ∷ [])
  well_next = well_kept config.bounds (whole ++ e ∷ []) (kept ++ e ∷ []) before_length prologue_length (kept_more config.bounds whole kept before_length prologue_length k e) well

  flawless : flaw_of config.bounds whole e ≡ None
  flawless = no_flaw-from_MayFollow config.bounds whole e (IsWellFormed-before config.bounds whole (e ∷ []) well) (IsWellFormed-last config.bounds whole e well)

  kept_in_time : IsKeptInTime config whole kept
  kept_in_time = record { before_length = before_length; prologue_length = prologue_length; is_kept = k; in_time = in_time }

  full_now : config.events ≤ length kept → CannotBeCut config whole
  full_now many =
      let a = ap length k.whole_is ∙ length-append k.before k.after in
      let b = ap length k.kept_is ∙ length-append k.prologue k.after in
      let n = length k.after in
      subst (CannotBeCut config) (take_all (before_length + n) whole (omega (arith, a, k.counted)))
      (in_time.since n (omega (arith, a, k.counted)) (omega (arith, many, b, k.measured)))

  kept_flawless : (flaw : Flaw) → flaw_of config.bounds kept e ≡ Some flaw → ⊥
  kept_flawless flaw is = none-some flaw (sym (no_flaw-from_MayFollow config.bounds kept e (IsWellFormed-before config.bounds kept (e ∷ []) well_next) (IsWellFormed-last config.bounds kept e well_next)) ∙ is)

  at_limit : (refusal : Refusal) → IsLimit config kept e refusal → IsLimitBehind config whole e refusal
  at_limit refusal h = (
    none,
    ⊎_elim
        (λ full. inl (full.0, record { kept = kept; is_kept = kept_in_time; full = full.1; no_cut = full_now full.1 }))
        (λ full. inr (full.0, record { kept = kept; is_kept = kept_in_time; no_node = full.2 }))
        h,
  )

  pub fault_kept : (fault : LogReplayFault) → IsFaultAtEvent config kept e fault → IsFaultBehind config whole e (moved_fault (in_whole before_length prologue_length (length kept)) fault)
  fault_kept (Refused p refusal) (at, inl flawed) = absurd (kept_flawless _ flawed)
  fault_kept (Refused p refusal) (at, inr (unflawed, limit)) = (end_kept config.bounds whole kept before_length prologue_length k, inr (flawless, at_limit refusal limit))
  fault_kept (WrongValue p) (at, flawed) = absurd (kept_flawless _ flawed)
  fault_kept Memory h = h

-- ---- an event that comes next

pub piece_more : (old new : LogPiece) (whole : List Event) (e : Event) → new.world.config ≡ old.world.config → new.world.log ≡ old.world.log ++ e ∷ [] → new.before ≡ old.before → new.prologue ≡ old.prologue → IsPieceOf whole old → IsPieceOf (whole ++ e ∷ []) new
piece_more old new whole e config log before prologue k =
    subst (λ n. IsKept new.world.config.bounds (whole ++ e ∷ []) new.world.log new.before n) (sym prologue)
    (subst (λ n. IsKept new.world.config.bounds (whole ++ e ∷ []) new.world.log n old.prologue) (sym before)
    (subst (λ l. IsKept new.world.config.bounds (whole ++ e ∷ []) l old.before old.prologue) (sym log)
    (subst (λ (c : Config). IsKept c.bounds (whole ++ e ∷ []) (old.world.log ++ e ∷ []) old.before old.prologue) (sym config)
    (kept_more old.world.config.bounds whole old.world.log old.before old.prologue k e))))

pub follows_alarm : (whole : List Event) (e : Event) (old new : LogPiece) (r : Result (Option Alarm) LogReplayFault) → IsPieceOf (whole ++ e ∷ []) new → IfOk r (λ alarm. (log : List Event) → IsPieceOf log new → IsJudged log new alarm) → IfErr r (λ fault. fault ≡ Memory) → OnErr r GrowthRefused → Follows whole e old r new
follows_alarm whole e old new (Ok alarm) k alarms fault refused = alarms (whole ++ e ∷ []) k
follows_alarm whole e old new (Err f) k alarms fault refused = subst (IsFaultBehind old.world.config whole e) (sym fault) refused

pub judged_none : (whole : List Event) (piece : LogPiece) → ¬ HasCycle piece.world.log → IsPieceOf whole piece → IsJudged whole piece None
judged_none whole piece none k = (λ c. none (cycle_kept piece.world.config.bounds whole piece.world.log piece.before piece.prologue k c), k)

pub judged_some : (whole : List Event) (piece : LogPiece) (alarm moved : Alarm) → IsAlarm piece.world.log alarm → IsInWhole piece.before piece.prologue alarm moved → IsPieceOf whole piece → IsJudged whole piece (Some moved)
judged_some whole piece alarm moved h is k = alarm_kept piece.world.config.bounds whole piece.world.log piece.before piece.prologue k alarm moved h is
