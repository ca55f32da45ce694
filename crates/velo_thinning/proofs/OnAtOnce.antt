-- Where no label is left out nothing is: so a log is judged at once as it is whichever labels are left out.
use Rattle.std.proofs.Common.{◌≡◌, ℕ, zero, suc, ◌+◌, ◌<◌, ◌≤◌, Bool, true, false, not, Option, Some, None, List, [], ◌∷◌, ◌++◌, length, map, take, get_or, refl, sym, ap, ◌∙◌, subst, arith}
use Rattle.std.specs.Prelude.{IsTrue, IsFalse}
use Rattle.std.proofs.Math.Seq.{take-length}
use Rattle.std.proofs.lemmas.Bool.{or_from}
use Rattle.std.proofs.lemmas.List.{get_or_default, length-take-le}
use Rattle.velo_events.specs.declared.event.Event.{Event}
use Rattle.velo_events.specs.Event.{is_by, lock_of, variable_of}
use Rattle.velo_events.specs.Block.{passes_at}
use Rattle.velo_events.specs.Graph.{HasCycle, IsClosing}
use Rattle.velo_events.specs.Reordering.{AreBlamed}
use Rattle.velo_events.proofs.OnScans.{event_at, take-next}
use Rattle.velo_events.proofs.OnOwners.{passes_at-within, is_open_at-within}
use Rattle.velo_events.proofs.OnUnfinished.{Contains-open_blocks}
use Rattle.velo_filter.specs.Left.{is_among}
use Rattle.velo_filter.proofs.OnRanks.{rank, rank-zero, rank-stays, events_staying, events_staying-stays}
use Rattle.velo_filter.proofs.OnLeft.{stays, rest_of-is, place-rank}
use Rattle.velo_laws.specs.Ordered.{dissolving}
use Rattle.velo_laws.specs.Judged.{without_labels, position, IsJudgedBy}
use Rattle.velo_laws.proofs.OnDropped.{take-none}
use Rattle.velo_laws.proofs.OnOrderedPlaces.{goes-is}
use Rattle.velo_laws.proofs.OnEitherOrder.{events_staying-same}
use Rattle.velo_laws.proofs.OnRepeatsBlame.{map-same}
use Rattle.velo_thinning.specs.Thinning.{IsJudgedAtOnce}

abbrev none : ℕ → Bool
none l = false

none_such : (o : Option ℕ) → IsFalse (is_among (λ l. false) o)
none_such (Some n) = refl
none_such None = refl

-- ---- everything stays

module _ (log : List Event) where
  stay : (i : ℕ) → i < length log → stays (dissolving none) log i ≡ true
  stay i l =
      let e = event_at log i l in
      ap not (goes-is (λ m. false) (λ x. false) log i e.0 e.1 ∙ or_from (is_among (λ m. false) (lock_of e.0.kind)) (is_among (λ x. false) (variable_of e.0.kind)) (none_such (lock_of e.0.kind)) (none_such (variable_of e.0.kind)))

  all : (n : ℕ) → n ≤ length log → events_staying log (λ i. true) n ≡ take n log
  all zero l = sym (take-none log)
  all (suc n) l =
      let e = event_at log n (omega (arith, l)) in
      events_staying-stays log (λ i. true) n e.0 e.1 refl
      ∙ (ap (λ es. es ++ e.0 ∷ []) (all n (omega (arith, l)))
      ∙ (sym (take-next log n e.0 e.1) ∙ ap (λ k. take k log) (let one : n + 1 ≡ suc n = omega arith in one)))

  same-log : without_labels none log ≡ log
  same-log =
      rest_of-is (dissolving none) log
      ∙ (events_staying-same log (stays (dissolving none) log) (λ i. true) (length log) (omega arith) stay
      ∙ (all (length log) (omega arith) ∙ take-length log))

  ranks : (n : ℕ) → n ≤ length log → rank (stays (dissolving none) log) n ≡ n
  ranks zero l = rank-zero (stays (dissolving none) log)
  ranks (suc n) l =
      let before = ranks n (omega (arith, l)) in
      let more = rank-stays (stays (dissolving none) log) n (stay n (omega (arith, l))) in
      omega (arith, before, more)

  same-position : (k : ℕ) → k < length log → position none log k ≡ k
  same-position k l = ap (position none log) (sym (ranks k (omega (arith, l)))) ∙ place-rank (dissolving none) log k l (stay k l)

-- a block to blame begins in the log
blamed-within : (log : List Event) (k t : ℕ) (blamed : List ℕ) → k < length log → AreBlamed (take (k + 1) log) t blamed → (i : ℕ) → i < length blamed → get_or blamed i 0 < length log
blamed-within log k t blamed l are i m =
    let b = get_or blamed i 0 in
    let T = take (k + 1) log in
    let opened = (Contains-open_blocks T t b).0 ((are.which b).0 (i, m, get_or_default blamed i b 0 m)).0 in
    let in_T = is_open_at-within T t b (length T) opened in
    let short = length-take-le (k + 1) log (omega (arith, l)) in
    omega (arith, in_T, short, l)

map-id : (xs : List ℕ) → map (λ x. x) xs ≡ xs
map-id [] = refl
map-id (x ∷ xs) = ap (λ ys. x ∷ ys) (map-id xs)

module _ (log events : List Event) (place : ℕ → ℕ) (judged : IsJudgedBy none log events place) where
  closes-at : (p : ℕ) → IsClosing log p → (k : ℕ) × IsClosing events k × (place k ≡ p)
  closes-at p c =
      let w = judged.closes p (subst (λ es. IsClosing es p) (sym (same-log log)) c) in
      let k : IsClosing events w.0 = subst (λ es. IsClosing es w.0) (same-log events) w.1 in
      (w.0, k, ap place (sym (same-position events w.0 k.in_trace)) ∙ (w.2 ∙ same-position log p c.in_trace))

  blame-at : (k t : ℕ) (blamed : List ℕ) → IsTrue (passes_at events (is_by t) k) → AreBlamed (take (k + 1) events) t blamed → AreBlamed (take (place k + 1) log) t (map place blamed)
  blame-at k t blamed own are =
      let l = passes_at-within events (is_by t) k own in
      let d = judged.blame k t blamed (subst (λ es. IsTrue (passes_at es (is_by t) k)) (sym (same-log events)) own)
      (subst (λ es. AreBlamed (take (k + 1) es) t blamed) (sym (same-log events)) are) in
      let in_log = passes_at-within log (is_by t) d.at (subst (λ es. IsTrue (passes_at es (is_by t) d.at)) (same-log log) d.own) in
      let there : AreBlamed (take (d.at + 1) log) t d.in_log = subst (λ es. AreBlamed (take (d.at + 1) es) t d.in_log) (same-log log) d.are_blamed in
      let at : d.at ≡ place k = sym (same-position log d.at in_log) ∙ (d.same_event ∙ ap place (same-position events k l)) in
      let blocks : d.in_log ≡ map place blamed
      = sym (map-id d.in_log)
      ∙ (sym (map-same (position none log) (λ b. b) d.in_log (λ i m. same-position log (get_or d.in_log i 0) (blamed-within log d.at t d.in_log in_log there i m)))
      ∙ (d.same_blocks
      ∙ map-same (λ b. place (position none events b)) place blamed (λ i m. ap place (same-position events (get_or blamed i 0) (blamed-within events k t blamed l are i m))))) in
      subst (λ p. AreBlamed (take (p + 1) log) t (map place blamed)) at (subst (AreBlamed (take (d.at + 1) log) t) blocks there)

  pub at_once : IsJudgedAtOnce log events place
  at_once = record {
    cycles = (
      (λ c. subst HasCycle (same-log events) (judged.cycles.0 (subst HasCycle (sym (same-log log)) c))),
      (λ c. subst HasCycle (same-log log) (judged.cycles.1 (subst HasCycle (sym (same-log events)) c))),
    );
    closes = closes-at;
    blame = blame-at;
  }
