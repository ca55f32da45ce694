-- Whether the certificate of a report bears out what it claims of a log.
use Rattle.std.specs.Prelude.{◌≡◌, ◌≢◌, ◌⊎◌, ℕ, ◌+◌, Bool, true, false, List, [], ◌∷◌, take, length, Option, Some, None, Contains}
use Rattle.velo_events.specs.declared.event.Event.{Event}
use Rattle.velo_events.specs.Block.{owner}
use Rattle.velo_events.specs.Graph.{Edge, HasCycle, IsCycle}
use Rattle.velo_events.specs.Reordering.{IsReordering, IsSerial, IsSerializable}
use Rattle.velo_certify.specs.Shortest.{IsShortestCycleAt}
use Rattle.velo_claims.specs.declared.claim.ClaimedAlarm.{ClaimedAlarm}
use Rattle.velo_claims.specs.declared.judging.Outcome.{Outcome}
use Rattle.velo_claims.specs.declared.judging.Outcome.TheVariants.{Clean, Alarm, Refuted}
use Rattle.velo_claims.specs.declared.judging.Reason.{Reason}
use Rattle.velo_claims.specs.declared.judging.Reason.TheVariants.{OtherEvents, NoCertificate, WrongOrder, WrongCycle, WrongTransaction}
use Rattle.velo_claims.specs.Text.{Claimed}

-- ---- what is borne out

-- The list certifies the verdict: without an alarm it is a serial reordering of the log, and with
-- one a shortest cycle of the events up to its position that begins with the transaction there
abbrev pub CertifiesOrder : List Event → List ℕ → Type 0
CertifiesOrder log list = IsReordering log list × IsSerial log list

abbrev pub Certifies : List Event → Option ClaimedAlarm → List ℕ → Type 0
Certifies log None list = CertifiesOrder log list
Certifies log (Some alarm) list =
    IsShortestCycleAt log alarm.position list × (alarm.transaction ≡ owner log alarm.position)

-- the claim is of a log of so many events, and its certificate certifies its verdict
pub record IsBorneOut (log : List Event) (claim : Claimed) : Type 0 where
  pub events : claim.events ≡ length log
  pub certified : Certifies log claim.alarm claim.certificate

-- ---- what this means for the log

-- some serial reordering of it exists, and its graph has no cycle
pub record IsClean (log : List Event) : Type 0 where
  pub serializable : IsSerializable log
  pub no_cycle : ¬ HasCycle log

-- the graph of the events up to and including position p has a cycle through the transaction of p,
-- and so these events have no serial reordering, and neither has the log
pub record HasCycleAt (log : List Event) (p : ℕ) : Type 0 where
  pub cycle : List ℕ
  pub is_cycle : IsCycle (Edge (take (p + 1) log)) cycle
  pub through : Contains cycle (owner log p)
  pub no_order : ¬ IsSerializable (take (p + 1) log)
  pub whole : ¬ IsSerializable log

-- ---- why it is not borne out

-- the first of these that holds: another number of events, no certificate, a wrong one
abbrev pub IsRefuted : List Event → Claimed → Reason → Type 0
IsRefuted log claim OtherEvents = claim.events ≢ length log
IsRefuted log claim NoCertificate =
    (claim.events ≡ length log) × (claim.certificate ≡ [])
    × (¬ Certifies log claim.alarm claim.certificate)
IsRefuted log claim WrongOrder =
    (claim.events ≡ length log) × (claim.certificate ≢ []) × (claim.alarm ≡ None)
    × (¬ CertifiesOrder log claim.certificate)
IsRefuted log claim WrongCycle =
    (claim.events ≡ length log) × (claim.certificate ≢ [])
    × ((alarm : ClaimedAlarm) × (claim.alarm ≡ Some alarm)
    × (¬ IsShortestCycleAt log alarm.position claim.certificate))
IsRefuted log claim WrongTransaction =
    (claim.events ≡ length log)
    × ((alarm : ClaimedAlarm) × (claim.alarm ≡ Some alarm)
    × IsShortestCycleAt log alarm.position claim.certificate
    × (alarm.transaction ≢ owner log alarm.position))

-- ---- the outcome

abbrev pub IsOutcome : List Event → Claimed → Outcome → Type 0
IsOutcome log claim Clean = (claim.alarm ≡ None) × IsBorneOut log claim × IsClean log
IsOutcome log claim (Alarm p) =
    ((alarm : ClaimedAlarm) × (claim.alarm ≡ Some alarm) × (p ≡ alarm.position))
    × IsBorneOut log claim × HasCycleAt log p
IsOutcome log claim (Refuted reason) = IsRefuted log claim reason × (¬ IsBorneOut log claim)

-- the claim is borne out
abbrev pub is_verified : Outcome → Bool
is_verified (Refuted reason) = false
is_verified _ = true

-- ---- words of the contracts within the crate

abbrev pub refuted_by : List ℕ → Reason → Outcome
refuted_by [] reason = Refuted NoCertificate
refuted_by (x ∷ xs) reason = Refuted reason
