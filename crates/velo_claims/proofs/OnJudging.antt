-- What a certificate says of its log, and what a judged claim comes to.
use Rattle.std.proofs.Common.{◌≡◌, ℕ, ◌+◌, ◌<◌, Bool, true, false, List, [], ◌∷◌, length, take, Option, Some, None, refl, sym, ap, subst, ◌∙◌, arith}
use Rattle.std.proofs.lemmas.Bool.{false≢true}
use Rattle.std.specs.Prelude.{◌↔◌, ◌≤◌, IsTrue, Contains, slice_index, slice_get}
use Rattle.velo_events.specs.declared.event.Event.{Event}
use Rattle.velo_events.specs.Block.{owner}
use Rattle.velo_events.specs.Graph.{Edge, HasCycle, IsCycle}
use Rattle.velo_events.specs.Reordering.{IsReordering, IsSerial, IsSerializable}
use Rattle.velo_events.proofs.OnGraphs.{HasCycle-from_take}
use Rattle.velo_events.proofs.OnSerializing.{serializable_law, serializable_law-none}
use Rattle.velo_certify.specs.Shortest.{IsShortestCycleAt}
use Rattle.velo_claims.specs.declared.claim.ClaimedAlarm.{ClaimedAlarm}
use Rattle.velo_claims.specs.declared.judging.Outcome.{Outcome}
use Rattle.velo_claims.specs.declared.judging.Outcome.TheVariants.{Clean, Alarm, Refuted}
use Rattle.velo_claims.specs.declared.judging.Reason.{Reason}
use Rattle.velo_claims.specs.declared.judging.Reason.TheVariants.{NoCertificate, WrongOrder}
use Rattle.velo_claims.specs.Judging.{Certifies, CertifiesOrder, HasCycleAt, IsBorneOut, IsClean, IsOutcome, IsRefuted, is_verified, refuted_by}
use Rattle.velo_claims.specs.Text.{Claimed}

-- ---- what a certificate says

pub IsClean-order : (log : List Event) (list : List ℕ) → CertifiesOrder log list → IsClean log
IsClean-order log list h =
    let some : IsSerializable log = record { order = list; reorders = h.0; serial = h.1 } in
    record { serializable = some; no_cycle = (serializable_law-none log).1 some }

-- a cycle contains what it begins with
begins_with : (R : ℕ → ℕ → Type 0) (cycle : List ℕ) (a : ℕ) → IsCycle R cycle → slice_index cycle 0 ≡ a → Contains cycle a
begins_with R [] a h e = absurd h
begins_with R (b ∷ []) a h e = absurd h
begins_with R (b ∷ c ∷ rest) a h e = (0, omega arith, e)

pub HasCycleAt-shortest : (log : List Event) (p : ℕ) (list : List ℕ) → IsShortestCycleAt log p list → HasCycleAt log p
HasCycleAt-shortest log p list h =
    let found : HasCycle (take (p + 1) log) = record { cycle = list; is_cycle = h.is_cycle.cyclic } in
    record {
      cycle = list;
      is_cycle = h.is_cycle.cyclic;
      through = begins_with (Edge (take (p + 1) log)) list (owner log p) h.is_cycle.cyclic h.is_cycle.begins;
      no_order = (serializable_law (take (p + 1) log)).0 found;
      whole = (serializable_law log).0 (HasCycle-from_take log (p + 1) found);
    }

-- ---- claims that are borne out

certified_by : (log : List Event) (claim : Claimed) (alarm : Option ClaimedAlarm) → claim.alarm ≡ alarm → IsBorneOut log claim → Certifies log alarm claim.certificate
certified_by log claim alarm e h = subst (λ (o : Option ClaimedAlarm). Certifies log o claim.certificate) e h.certified

borne_out_by : (log : List Event) (claim : Claimed) (alarm : Option ClaimedAlarm) → claim.events ≡ length log → claim.alarm ≡ alarm → Certifies log alarm claim.certificate → IsBorneOut log claim
borne_out_by log claim alarm same e h =
    record { events = same; certified = subst (λ (o : Option ClaimedAlarm). Certifies log o claim.certificate) (sym e) h }

pub IsOutcome-clean : (log : List Event) (claim : Claimed) → claim.events ≡ length log → claim.alarm ≡ None → CertifiesOrder log claim.certificate → IsOutcome log claim Clean
IsOutcome-clean log claim same none h = (none, borne_out_by log claim None same none h, IsClean-order log claim.certificate h)

pub IsOutcome-alarm : (log : List Event) (claim : Claimed) (alarm : ClaimedAlarm) → claim.events ≡ length log → claim.alarm ≡ Some alarm → IsShortestCycleAt log alarm.position claim.certificate → alarm.transaction ≡ owner log alarm.position → IsOutcome log claim (Alarm alarm.position)
IsOutcome-alarm log claim alarm same e h own = ((alarm, e, refl), borne_out_by log claim (Some alarm) same e (h, own), HasCycleAt-shortest log alarm.position claim.certificate h)

-- ---- claims that are not

pub IsOutcome-order : (log : List Event) (claim : Claimed) → claim.events ≡ length log → claim.alarm ≡ None → ¬ CertifiesOrder log claim.certificate → IsOutcome log claim (refuted_by claim.certificate WrongOrder)
IsOutcome-order log claim same none wrong = by claim.certificate refl
  where
    not_so : ¬ IsBorneOut log claim
    not_so h = wrong (certified_by log claim None none h)

    by : (list : List ℕ) → claim.certificate ≡ list → IsOutcome log claim (refuted_by list WrongOrder)
    by [] e = ((same, e, λ h. not_so (record { events = same; certified = h })), not_so)
    by (x ∷ xs) e = ((same, (λ h. cc), none, wrong), not_so)

-- ---- the outcome tells whether the claim is borne out

pub verified_exactly : (log : List Event) (claim : Claimed) (outcome : Outcome) → IsOutcome log claim outcome → IsTrue (is_verified outcome) ↔ IsBorneOut log claim
verified_exactly log claim Clean h = ((λ _. h.1), (λ _. refl))
verified_exactly log claim (Alarm p) h = ((λ _. h.1), (λ _. refl))
verified_exactly log claim (Refuted reason) h = ((λ no. absurd (false≢true no)), (λ b. absurd (h.1 b)))

-- ---- what the checkers say

-- a list that is the certificate, and what the checker said of it
pub order_right : (log : List Event) (claim : Claimed) (list : List ℕ) (said : Bool) → list ≡ claim.certificate → claim.events ≡ length log → claim.alarm ≡ None
    → IsTrue said ↔ CertifiesOrder log list → said ≡ true → IsOutcome log claim Clean
order_right log claim list said is same none says right = IsOutcome-clean log claim same none (subst (CertifiesOrder log) is (says.0 right))

pub order_wrong : (log : List Event) (claim : Claimed) (list : List ℕ) (said : Bool) (outcome : Outcome) → list ≡ claim.certificate → claim.events ≡ length log → claim.alarm ≡ None
    → IsTrue said ↔ CertifiesOrder log list → said ≡ false → outcome ≡ refuted_by list WrongOrder → IsOutcome log claim outcome
order_wrong log claim list said outcome is same none says wrong found =
    subst (IsOutcome log claim) (sym (found ∙ ap (λ (l : List ℕ). refuted_by l WrongOrder) is))
    (IsOutcome-order log claim same none (λ h. false≢true (sym wrong ∙ says.1 (subst (CertifiesOrder log) (sym is) h))))

pub cycle_right : (log : List Event) (claim : Claimed) (alarm : ClaimedAlarm) (list : List ℕ) → list ≡ claim.certificate → claim.events ≡ length log → claim.alarm ≡ Some alarm
    → IsShortestCycleAt log alarm.position list → slice_get list 0 ≡ Some alarm.transaction → IsOutcome log claim (Alarm alarm.position)
cycle_right log claim alarm list is same some h first =
    IsOutcome-alarm log claim alarm same some (subst (IsShortestCycleAt log alarm.position) is h) (first_is list alarm.transaction (owner log alarm.position) first h.is_cycle.begins)
  where
    first_is : (list : List ℕ) (x y : ℕ) → slice_get list 0 ≡ Some x → slice_index list 0 ≡ y → x ≡ y
    first_is [] x y some is = cc
    first_is (z ∷ zs) x y some is = cc
