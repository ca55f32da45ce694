-- What follows from a turn: for its room, and for its seat.
use Rattle.std.proofs.Common.{◌≡◌, ◌≢◌, ◌⊎◌, inl, inr, ⊎_elim, refl, ℕ, ap, ◌∙◌, sym, subst, Ok, Err, List, length, set, replicate}
use Rattle.std.specs.Prelude.{Result, Option, Some, None, IfErr, IfSome, IsErrAnd, ◌↔◌}
use Rattle.std.proofs.lemmas.List.{length-set, length-replicate}
use Rattle.std.proofs.lemmas.List.Elements.{All-same, All-set, All-replicate}
use Rattle.velo_events.specs.declared.config.Bounds.{Bounds}
use Rattle.velo_events.specs.declared.event.Action.{Action}
use Rattle.velo_events.specs.declared.event.ThreadId.{ThreadId}
use Rattle.velo_events.specs.declared.refusal.Refusal.{Refusal}
use Rattle.velo_events.specs.declared.refusal.Refusal.TheVariants.{Memory, WouldDeadlock, RuntimeMemory, Foreign}
use Rattle.velo_events.specs.Refusals.{GrowthRefused}
use Rattle.velo_ledger.specs.Views.{Holding}
use Rattle.velo_world.specs.World.{WorldState}
use Rattle.velo_world.specs.World.{FitsLog}
use Rattle.velo_world.specs.World.{Acts}
use Rattle.velo_world.specs.declared.analysis.Reply.{Reply}
use Rattle.velo_runtime.specs.declared.wait.Wanted.{Wanted}
use Rattle.velo_runtime.specs.declared.wait.Turn.{Turn}
use Rattle.velo_runtime.specs.declared.wait.Turn.TheVariants.{Done, Refused, Wait}
use Rattle.velo_runtime.specs.Rooms.{RoomState, IsThere, AreWaitsWithin}
use Rattle.velo_runtime.specs.Steps.{ActsIn, StepsForking}
use Rattle.velo_runtime.specs.Turns.{wanted_by, RefusedFor, IsTurnAfter, TakesTurn, TurnsIn}
use Rattle.velo_runtime.specs.Seats.{GainsEventBy, IsForkRefused, IsRefused}
use Rattle.velo_runtime.proofs.OnRefusals.{acts-refuses, no_foreign, no_runtime, refused_growth}

-- ---- the table of waits

pub AreWaitsWithin-open : (bounds : Bounds) (waits : List (Option Wanted)) → waits ≡ replicate bounds.threads None → AreWaitsWithin bounds waits
AreWaitsWithin-open bounds waits is = record {
  count = ap length is ∙ length-replicate bounds.threads None;
  each = All-same (λ wait. IfSome wait (IsThere bounds)) waits (replicate bounds.threads None) is (All-replicate (λ wait. IfSome wait (IsThere bounds)) bounds.threads None tt);
}

pub AreWaitsWithin-set : (bounds : Bounds) (waits : List (Option Wanted)) (t : ℕ) (wait : Option Wanted) → AreWaitsWithin bounds waits → IfSome wait (IsThere bounds) → AreWaitsWithin bounds (set waits t wait)
AreWaitsWithin-set bounds waits t wait are there = record {
  count = length-set waits t wait ∙ are.count;
  each = All-set (λ w. IfSome w (IsThere bounds)) waits t wait there are.each;
}

-- ---- a turn is judged in the room as it was

same_room : (room room' : RoomState) → room'.world ≡ room.world → room'.waits ≡ room.waits → room' ≡ room
same_room room room' world waits =
    let made : WorldState → List (Option Wanted) → RoomState = λ w v. record { world = w; waits = v } in
    ap (λ w. made w room'.waits) world ∙ ap (made room.world) waits

pub turn-before : (room room' : RoomState) (share share' : Holding) (action : Action) (outcome : Result Reply Refusal) (turn : Turn) (wait : Option Wanted) → ActsIn room share action outcome room' share' → IsTurnAfter room' share.thread action outcome turn wait → IsTurnAfter room share.thread action outcome turn wait
turn-before room room' share share' action (Ok reply) turn wait acts is = is
turn-before room room' share share' action (Err r) turn wait acts is = rw (same_room room room' acts.acts.world acts.waits) at is

-- the step, the turn that follows from it, and the wait that is entered
pub takes-turn : (room mid room' : RoomState) (share share' : Holding) (action : Action) (outcome : Result Reply Refusal) (turn : Turn) (wait : Option Wanted) (t : ThreadId) (place : ℕ) → ActsIn room share action outcome mid share' → t ≡ share.thread → place ≡ t.0 → IsTurnAfter mid t action outcome turn wait → room'.world ≡ mid.world → room'.waits ≡ set mid.waits place wait → TakesTurn room share action turn room' share'
takes-turn room mid room' share share' action outcome turn wait t place acts own at_own is world waits = record {
  fits = acts.fits;
  outcome = outcome;
  acts = rw world acts.acts;
  wait = wait;
  turn_is = turn-before room mid share share' action outcome turn wait acts (rw own at is);
  waits = waits ∙ (ap (λ k. set mid.waits k wait) (at_own ∙ ap (λ (u : ThreadId). u.0) own) ∙ ap (λ v. set v share.thread.0 wait) acts.waits);
}

-- ---- what a turn tells its seat

turn-refused : (room : RoomState) (t : ThreadId) (action : Action) (outcome : Result Reply Refusal) (r : Refusal) (wait : Option Wanted) → IsTurnAfter room t action outcome (Refused r) wait → ((outcome ≡ Err r) × (wanted_by action r ≡ None)) ⊎ (r ≡ WouldDeadlock)
turn-refused room t action (Ok reply) r wait is = let done = is.0 in cc
turn-refused room t action (Err f) r wait is = at (wanted_by action f) refl is
  where
    at : (o : Option Wanted) → wanted_by action f ≡ o → RefusedFor room t f o (Refused r) wait → ((◌≡◌ {A = Result Reply Refusal} (Err f) (Err r)) × (wanted_by action r ≡ None)) ⊎ (r ≡ WouldDeadlock)
    at None none refused = let told = refused.0 in let same : r ≡ f = cc in inl (ap Err (sym same), ap (wanted_by action) same ∙ none)
    at (Some wanted) some refused = ⊎_elim (λ back. let told = back.1 in inr cc) (λ waits. let told = waits.1 in cc) refused

turn-done : (room : RoomState) (t : ThreadId) (action : Action) (outcome : Result Reply Refusal) (reply : Reply) (wait : Option Wanted) → IsTurnAfter room t action outcome (Done reply) wait → outcome ≡ Ok reply
turn-done room t action (Ok out) reply wait is = let done = is.0 in cc
turn-done room t action (Err f) reply wait is = at (wanted_by action f) is
  where
    at : (o : Option Wanted) → RefusedFor room t f o (Done reply) wait → ◌≡◌ {A = Result Reply Refusal} (Err f) (Ok reply)
    at None refused = let told = refused.0 in cc
    at (Some wanted) refused = ⊎_elim (λ back. let told = back.1 in cc) (λ waits. let told = waits.1 in cc) refused

pub turn-foreign : (room room' : RoomState) (share share' : Holding) (action : Action) (turn : Turn) → TakesTurn room share action turn room' share' → (turn ≡ Refused Foreign) ↔ ¬ FitsLog room.world share
turn-foreign room room' share share' action turn takes = (λ h. absurd (never (rw h at takes.turn_is)), λ misfit. absurd (misfit takes.fits))
  where
    never : IsTurnAfter room share.thread action takes.outcome (Refused Foreign) takes.wait → ⊥
    never is = ⊎_elim
        (λ refused. no_foreign (acts-refuses room.world room'.world share share' action takes.outcome Foreign takes.acts refused.0))
        (λ other. cc)
        (turn-refused room share.thread action takes.outcome Foreign takes.wait is)

pub turn-memory : (room room' : RoomState) (share share' : Holding) (action : Action) (turn : Turn) → TakesTurn room share action turn room' share' → turn ≡ Refused Memory → GrowthRefused
turn-memory room room' share share' action turn takes h = ⊎_elim
    (λ refused. refused_growth (acts-refuses room.world room'.world share share' action takes.outcome Memory takes.acts refused.0))
    (λ other. cc)
    (turn-refused room share.thread action takes.outcome Memory takes.wait (rw h at takes.turn_is))

pub turn-runtime : (room room' : RoomState) (share share' : Holding) (action : Action) (turn : Turn) → TakesTurn room share action turn room' share' → turn ≢ Refused RuntimeMemory
turn-runtime room room' share share' action turn takes h = ⊎_elim
    (λ refused. no_runtime (acts-refuses room.world room'.world share share' action takes.outcome RuntimeMemory takes.acts refused.0))
    (λ other. cc)
    (turn-refused room share.thread action takes.outcome RuntimeMemory takes.wait (rw h at takes.turn_is))

acted : (w w' : WorldState) (share share' : Holding) (action : Action) (reply : Reply) → Acts w share action (Ok reply) w' share' → GainsEventBy share share' reply action
acted w w' share share' action reply acts =
    let adds = acts.1 in
    record {
      log = w.log;
      value = adds.replies.value;
      gains = record { later = adds.later; holding = rw adds.replies.position adds.holding };
    }

pub did : (room room' : RoomState) (share share' : Holding) (action : Action) (reply : Reply) → TurnsIn room share action (Done reply) room' share' → GainsEventBy share share' reply action
did room room' share share' action reply (inl takes) =
    acted room.world room'.world share share' action reply (rw (turn-done room share.thread action takes.outcome reply takes.wait takes.turn_is) at takes.acts)
did room room' share share' action reply (inr foreign) = let told = foreign.1 in cc

kept_by : (room room' : RoomState) (share share' : Holding) (action : Action) (turn : Turn) (wait : Option Wanted) (outcome : Result Reply Refusal) → ((reply : Reply) → turn ≡ Done reply → ⊥) → Acts room.world share action outcome room'.world share' → IsTurnAfter room share.thread action outcome turn wait → share' ≡ share
kept_by room room' share share' action turn wait (Ok reply) other acts is = absurd (other reply is.0)
kept_by room room' share share' action turn wait (Err r) other acts is = acts.holding

undone : (room room' : RoomState) (share share' : Holding) (action : Action) (turn : Turn) → ((reply : Reply) → turn ≡ Done reply → ⊥) → TurnsIn room share action turn room' share' → share' ≡ share
undone room room' share share' action turn other (inl takes) = kept_by room room' share share' action turn takes.wait takes.outcome other takes.acts takes.turn_is
undone room room' share share' action turn other (inr foreign) = foreign.0.same_share

pub same_after_refusal : (room room' : RoomState) (share share' : Holding) (action : Action) (r : Refusal) → TurnsIn room share action (Refused r) room' share' → share' ≡ share
same_after_refusal room room' share share' action r turns = undone room room' share share' action (Refused r) (λ reply is. cc) turns

pub refused_in : (room room' : RoomState) (share share' : Holding) (action : Action) (r : Refusal) → TurnsIn room share action (Refused r) room' share' → IsRefused share action r
refused_in room room' share share' action r turns = record {
  room = room;
  room' = room';
  turns = subst (TurnsIn room share action (Refused r) room') (same_after_refusal room room' share share' action r turns) turns;
}

fork_undone : (room room' : RoomState) (share share' : Holding) (child : ThreadId) (r : Refusal) → StepsForking room share child (Err r) room' share' → share' ≡ share
fork_undone room room' share share' child r (inl forks) = forks.forks.holding
fork_undone room room' share share' child r (inr foreign) = foreign.0.same_share

pub fork_refused_in : (room room' : RoomState) (share share' : Holding) (child : ThreadId) (r : Refusal) → StepsForking room share child (Err r) room' share' → IsForkRefused share child r
fork_refused_in room room' share share' child r steps = record {
  room = room;
  room' = room';
  steps = subst (StepsForking room share child (Err r) room') (fork_undone room room' share share' child r steps) steps;
}

-- a refusal that is handed on
pub handed_on : {X : Type 0} (result : Result X Refusal) (r : Refusal) (P : Refusal → Type 0) → IsErrAnd result (λ f. f ≡ r) → P r → IfErr result P
handed_on (Ok x) r P same holds = tt
handed_on (Err f) r P same holds = subst P (sym same) holds

pub same_after_wait : (room room' : RoomState) (share share' : Holding) (action : Action) → TurnsIn room share action Wait room' share' → share' ≡ share
same_after_wait room room' share share' action turns = undone room room' share share' action Wait (λ reply is. cc) turns

-- a refusal that may pass is not answered
pub lasting_refusal : (room room' : RoomState) (share share' : Holding) (action : Action) (r : Refusal) → TurnsIn room share action (Refused r) room' share' → wanted_by action r ≡ None
lasting_refusal room room' share share' action r (inl takes) = ⊎_elim
    (λ refused. refused.1)
    (λ is. rw is refl)
    (turn-refused room share.thread action takes.outcome r takes.wait takes.turn_is)
lasting_refusal room room' share share' action r (inr foreign) = let told = foreign.1 in let is : r ≡ Foreign = cc in rw is refl

pub ruleset turns = (same_after_refusal, same_after_wait, lasting_refusal)
