-- Which refusals a step answers: those that are due in the world, memory behind a refused growth, and the foreign share.
use Rattle.std.proofs.Common.{◌≡◌, ◌≢◌, ℕ, ◌<◌, ◌⊎◌, inl, inr, ⊎_elim, refl, ap, ◌∙◌, Ok, Err}
use Rattle.std.specs.Prelude.{⊤, Result, Option, Some, None, Bool, true, false, List, ◌↔◌, IfErr, IfSome, if◌then◌else◌, length, nat_le}
use Rattle.std.proofs.lemmas.Bool.{false≢true, leb-false}
use Rattle.velo_events.specs.declared.config.Bounds.{Bounds}
use Rattle.velo_events.specs.declared.event.Action.{Action}
use Rattle.velo_events.specs.declared.event.Action.TheVariants.{Acquire, AcquireShared, Fork, Join}
use Rattle.velo_events.specs.declared.event.Event.{Event}
use Rattle.velo_events.specs.declared.event.Kind.{Kind}
use Rattle.velo_events.specs.declared.event.Kind.TheVariants as kind
use Rattle.velo_events.specs.declared.event.LockId.{LockId}
use Rattle.velo_events.specs.declared.event.ThreadId.{ThreadId}
use Rattle.velo_events.specs.declared.refusal.Refusal.{Refusal}
use Rattle.velo_events.specs.declared.refusal.Refusal.TheVariants.{Halted, NotLive, NoSuchVariable, NoSuchLock, NoSuchThread, Busy, AlreadyHeld, NotHolder, NoOpenBlock, TooDeep, AlreadyForked, NotForked, NotExited, AlreadyJoined, BlockOpen, LockHeld, LogFull, Memory, WouldDeadlock, RuntimeMemory, Foreign}
use Rattle.velo_events.specs.Meaning.{kind_for, event_for, refusal_of}
use Rattle.velo_events.specs.Refusals.{GrowthRefused}
use Rattle.velo_ledger.specs.Views.{Holding}
use Rattle.velo_world.specs.World.{WorldState, meaning}
use Rattle.velo_world.specs.World.{FitsLog}
use Rattle.velo_world.specs.World.{Acts, Forks, Refuses}
use Rattle.velo_world.specs.declared.analysis.Reply.{Reply}
use Rattle.velo_runtime.specs.Rooms.{RoomState, IsThere}
use Rattle.velo_runtime.specs.Steps.{ActsIn, ForksIn}
use Rattle.velo_runtime.specs.Turns.{wanted_by, lock_wanted, thread_wanted}

-- ---- the meaning of an action gives refusals of the world alone

abbrev pub is_of_world : Refusal → Bool
is_of_world Memory = false
is_of_world WouldDeadlock = false
is_of_world RuntimeMemory = false
is_of_world Foreign = false
is_of_world _ = true

abbrev IsOfWorld : Refusal → Type 0
IsOfWorld r = is_of_world r ≡ true

abbrev IfReason : Option Refusal → Type 0
IfReason None = ⊤
IfReason (Some r) = IsOfWorld r

one_reason : (b : Bool) (r : Refusal) (rest : Option Refusal) → IsOfWorld r → IfReason rest → IfReason (if b then Some r else rest)
one_reason true r rest here others = here
one_reason false r rest here others = others

all_reasons : (b0 b1 b2 b3 b4 b5 b6 b7 b8 b9 b10 b11 b12 b13 b14 : Bool) → IfReason (if b0 then Some NotLive else (if b1 then Some NoSuchVariable else (if b2 then Some NoSuchLock else (if b3 then Some NoSuchThread else (if b4 then Some Busy else (if b5 then Some AlreadyHeld else (if b6 then Some NotHolder else (if b7 then Some NoOpenBlock else (if b8 then Some TooDeep else (if b9 then Some AlreadyForked else (if b10 then Some NotForked else (if b11 then Some NotExited else (if b12 then Some AlreadyJoined else (if b13 then Some BlockOpen else (if b14 then Some LockHeld else None)))))))))))))))
all_reasons b0 b1 b2 b3 b4 b5 b6 b7 b8 b9 b10 b11 b12 b13 b14 = one_reason b0 NotLive _ refl (one_reason b1 NoSuchVariable _ refl (one_reason b2 NoSuchLock _ refl (one_reason b3 NoSuchThread _ refl (one_reason b4 Busy _ refl (one_reason b5 AlreadyHeld _ refl (one_reason b6 NotHolder _ refl (one_reason b7 NoOpenBlock _ refl (one_reason b8 TooDeep _ refl (one_reason b9 AlreadyForked _ refl (one_reason b10 NotForked _ refl (one_reason b11 NotExited _ refl (one_reason b12 AlreadyJoined _ refl (one_reason b13 BlockOpen _ refl (one_reason b14 LockHeld None refl tt))))))))))))))

refusal_of-reason : (bounds : Bounds) (log : List Event) (t : ℕ) (kind : Kind) → IfReason (refusal_of bounds log t kind)
unfolding refusal_of
refusal_of-reason bounds log t kind = all_reasons _ _ _ _ _ _ _ _ _ _ _ _ _ _ _

by_reason : (halted : Bool) (r r' : Refusal) → IsOfWorld r → ◌≡◌ {A = Result Event Refusal} (if halted then Err Halted else Err r) (Err r') → IsOfWorld r'
by_reason true r r' of_world h = let is : Halted ≡ r' = cc in rw (← is) refl
by_reason false r r' of_world h = let is : r ≡ r' = cc in rw (← is) of_world

by_limit : (halted full : Bool) (e : Event) (r' : Refusal) → ◌≡◌ {A = Result Event Refusal} (if halted then Err Halted else (if full then Err LogFull else Ok e)) (Err r') → IsOfWorld r'
by_limit true full e r' h = let is : Halted ≡ r' = cc in rw (← is) refl
by_limit false true e r' h = let is : LogFull ≡ r' = cc in rw (← is) refl
by_limit false false e r' h = cc

pub meaning-refusal : (w : WorldState) (t : ThreadId) (action : Action) (r : Refusal) → meaning w t action ≡ Err r → is_of_world r ≡ true
meaning-refusal w t action r h = at (refusal_of w.config.bounds w.log t.0 (kind_for w.log action)) refl
  where
    at : (o : Option Refusal) → refusal_of w.config.bounds w.log t.0 (kind_for w.log action) ≡ o → IsOfWorld r
    at (Some reason) is = by_reason w.halted reason r (rw is at (refusal_of-reason w.config.bounds w.log t.0 (kind_for w.log action))) (rw is at h)
    at None is = by_limit w.halted (nat_le w.config.events (length w.log)) (event_for w.log t action) r (rw is at h)

-- ---- why the world refuses

pub record WorldRefuses (r : Refusal) : Type 0 where
  pub cause : (is_of_world r ≡ true) ⊎ ((r ≡ Memory) × GrowthRefused)

refuses-cause : {X : Type 0} (w w' : WorldState) (held held' : X) (t : ThreadId) (action : Action) (r : Refusal) → Refuses w held (meaning w t action) r w' held' → WorldRefuses r
refuses-cause w w' held held' t action r refuses = record {
  cause = ⊎_elim
      (λ due. inl (meaning-refusal w t action r due))
      (λ other. ⊎_elim (λ memory. inr (memory.0, memory.1.1)) (λ full. inl (rw full.0 refl)) other)
      refuses.cause;
}

same_refusal : {X : Type 0} (r r' : Refusal) → ◌≡◌ {A = Result X Refusal} (Err r) (Err r') → r ≡ r'
same_refusal r r' h = cc

pub acts-refuses : (w w' : WorldState) (share share' : Holding) (action : Action) (outcome : Result Reply Refusal) (r : Refusal) → Acts w share action outcome w' share' → outcome ≡ Err r → WorldRefuses r
acts-refuses w w' share share' action (Ok reply) r acts h = cc
acts-refuses w w' share share' action (Err refusal) r acts h = rw (← same_refusal refusal r h) (refuses-cause w w' share share' share.thread action refusal acts)

pub forks-refuses : (w w' : WorldState) (share share' : Holding) (child : ThreadId) (outcome : Result (Reply × Holding) Refusal) (r : Refusal) → Forks w share child outcome w' share' → outcome ≡ Err r → WorldRefuses r
forks-refuses w w' share share' child (Ok forked) r forks h = cc
forks-refuses w w' share share' child (Err refusal) r forks h = rw (← same_refusal refusal r h) (refuses-cause w w' share share' share.thread (Fork child) refusal forks)

pub no_foreign : WorldRefuses Foreign → ⊥
no_foreign refuses = ⊎_elim (λ of_world. false≢true of_world) (λ memory. (let is = memory.0 in cc)) refuses.cause

pub no_runtime : WorldRefuses RuntimeMemory → ⊥
no_runtime refuses = ⊎_elim (λ of_world. false≢true of_world) (λ memory. (let is = memory.0 in cc)) refuses.cause

pub refused_growth : WorldRefuses Memory → GrowthRefused
refused_growth refuses = ⊎_elim (λ of_world. absurd (false≢true of_world)) (λ memory. memory.1) refuses.cause

-- ---- of a step in a room

pub acts-foreign : (room room' : RoomState) (share share' : Holding) (action : Action) (outcome : Result Reply Refusal) → ActsIn room share action outcome room' share' → (outcome ≡ Err Foreign) ↔ ¬ FitsLog room.world share
acts-foreign room room' share share' action outcome acts =
    (λ h. absurd (no_foreign (acts-refuses room.world room'.world share share' action outcome Foreign acts.acts h)), λ misfit. absurd (misfit acts.fits))

pub acts-memory : (room room' : RoomState) (share share' : Holding) (action : Action) (outcome : Result Reply Refusal) → ActsIn room share action outcome room' share' → outcome ≡ Err Memory → GrowthRefused
acts-memory room room' share share' action outcome acts h = refused_growth (acts-refuses room.world room'.world share share' action outcome Memory acts.acts h)

pub acts-runtime : (room room' : RoomState) (share share' : Holding) (action : Action) (outcome : Result Reply Refusal) → ActsIn room share action outcome room' share' → outcome ≢ Err RuntimeMemory
acts-runtime room room' share share' action outcome acts h = no_runtime (acts-refuses room.world room'.world share share' action outcome RuntimeMemory acts.acts h)

pub forks-foreign : (room room' : RoomState) (share share' : Holding) (child : ThreadId) (outcome : Result (Reply × Holding) Refusal) → ForksIn room share child outcome room' share' → (outcome ≡ Err Foreign) ↔ ¬ FitsLog room.world share
forks-foreign room room' share share' child outcome forks =
    (λ h. absurd (no_foreign (forks-refuses room.world room'.world share share' child outcome Foreign forks.forks h)), λ misfit. absurd (misfit forks.fits))

pub forks-memory : (room room' : RoomState) (share share' : Holding) (child : ThreadId) (outcome : Result (Reply × Holding) Refusal) → ForksIn room share child outcome room' share' → outcome ≡ Err Memory → GrowthRefused
forks-memory room room' share share' child outcome forks h = refused_growth (forks-refuses room.world room'.world share share' child outcome Memory forks.forks h)

pub forks-runtime : (room room' : RoomState) (share share' : Holding) (child : ThreadId) (outcome : Result (Reply × Holding) Refusal) → ForksIn room share child outcome room' share' → outcome ≢ Err RuntimeMemory
forks-runtime room room' share share' child outcome forks h = no_runtime (forks-refuses room.world room'.world share share' child outcome RuntimeMemory forks.forks h)

-- ---- a refusal that may pass names what is there

reason_is : (halted : Bool) (reason r : Refusal) → (r ≡ Halted → ⊥) → ◌≡◌ {A = Result Event Refusal} (if halted then Err Halted else Err reason) (Err r) → reason ≡ r
reason_is true reason r other h = let is : r ≡ Halted = cc in absurd (other is)
reason_is false reason r other h = cc

no_reason : (halted full : Bool) (e : Event) (r : Refusal) → (r ≡ Halted → ⊥) → (r ≡ LogFull → ⊥) → ◌≡◌ {A = Result Event Refusal} (if halted then Err Halted else (if full then Err LogFull else Ok e)) (Err r) → ⊥
no_reason true full e r halted limit h = let is : r ≡ Halted = cc in halted is
no_reason false true e r halted limit h = let is : r ≡ LogFull = cc in limit is
no_reason false false e r halted limit h = cc

meaning-reason : (w : WorldState) (t : ThreadId) (action : Action) (r : Refusal) → (r ≡ Halted → ⊥) → (r ≡ LogFull → ⊥) → meaning w t action ≡ Err r → refusal_of w.config.bounds w.log t.0 (kind_for w.log action) ≡ Some r
meaning-reason w t action r halted limit h = at (refusal_of w.config.bounds w.log t.0 (kind_for w.log action)) refl
  where
    at : (o : Option Refusal) → refusal_of w.config.bounds w.log t.0 (kind_for w.log action) ≡ o → refusal_of w.config.bounds w.log t.0 (kind_for w.log action) ≡ Some r
    at (Some reason) is = is ∙ ap Some (reason_is w.halted reason r halted (rw is at h))
    at None is = absurd (no_reason w.halted (nat_le w.config.events (length w.log)) (event_for w.log t action) r halted limit (rw is at h))

no_lock : (b0 b2 : Bool) (rest : Option Refusal) → (if b0 then Some NotLive else (if b2 then Some NoSuchLock else rest)) ≡ Some Busy → b2 ≡ false
no_lock true b2 rest h = let is : ◌≡◌ {A = Option Refusal} (Some NotLive) (Some Busy) = h in cc
no_lock false true rest h = let is : ◌≡◌ {A = Option Refusal} (Some NoSuchLock) (Some Busy) = h in cc
no_lock false false rest h = refl

no_thread : (b0 b3 : Bool) (rest : Option Refusal) → (if b0 then Some NotLive else (if b3 then Some NoSuchThread else rest)) ≡ Some NotExited → b3 ≡ false
no_thread true b3 rest h = let is : ◌≡◌ {A = Option Refusal} (Some NotLive) (Some NotExited) = h in cc
no_thread false true rest h = let is : ◌≡◌ {A = Option Refusal} (Some NoSuchThread) (Some NotExited) = h in cc
no_thread false false rest h = refl

lock_there : (bounds : Bounds) (log : List Event) (t : ℕ) (m : LockId) → refusal_of bounds log t (kind.Acquire m) ≡ Some Busy → m.0 < bounds.locks
unfolding refusal_of
lock_there bounds log t m h = leb-false bounds.locks m.0 (no_lock _ _ _ h)

share_there : (bounds : Bounds) (log : List Event) (t : ℕ) (m : LockId) → refusal_of bounds log t (kind.AcquireShared m) ≡ Some Busy → m.0 < bounds.locks
unfolding refusal_of
share_there bounds log t m h = leb-false bounds.locks m.0 (no_lock _ _ _ h)

thread_there : (bounds : Bounds) (log : List Event) (t : ℕ) (u : ThreadId) → refusal_of bounds log t (kind.Join u) ≡ Some NotExited → u.0 < bounds.threads
unfolding refusal_of
thread_there bounds log t u h = leb-false bounds.threads u.0 (no_thread _ _ _ h)

busy_there : (w : WorldState) (t : ThreadId) (action : Action) → meaning w t action ≡ Err Busy → IfSome (lock_wanted action) (IsThere w.config.bounds)
busy_there w t (Acquire m) h = lock_there w.config.bounds w.log t.0 m (meaning-reason w t (Acquire m) Busy (λ is. cc) (λ is. cc) h)
busy_there w t (AcquireShared m) h = share_there w.config.bounds w.log t.0 m (meaning-reason w t (AcquireShared m) Busy (λ is. cc) (λ is. cc) h)
busy_there w t _ h = tt

early_there : (w : WorldState) (t : ThreadId) (action : Action) → meaning w t action ≡ Err NotExited → IfSome (thread_wanted action) (IsThere w.config.bounds)
early_there w t (Join u) h = thread_there w.config.bounds w.log t.0 u (meaning-reason w t (Join u) NotExited (λ is. cc) (λ is. cc) h)
early_there w t _ h = tt

due_there : (w : WorldState) (t : ThreadId) (action : Action) (r : Refusal) → meaning w t action ≡ Err r → IfSome (wanted_by action r) (IsThere w.config.bounds)
due_there w t action Busy h = busy_there w t action h
due_there w t action NotExited h = early_there w t action h
due_there w t action _ h = tt

refuses-there : (w w' : WorldState) (share share' : Holding) (action : Action) (r : Refusal) → Refuses w share (meaning w share.thread action) r w' share' → IfSome (wanted_by action r) (IsThere w'.config.bounds)
refuses-there w w' share share' action r refuses =
    rw refuses.world (⊎_elim (λ due. due_there w share.thread action r due) (λ other. ⊎_elim (λ memory. rw memory.0 tt) (λ full. rw full.0 tt) other) refuses.cause)

pub acts-there : (room room' : RoomState) (share share' : Holding) (action : Action) (outcome : Result Reply Refusal) → ActsIn room share action outcome room' share' → IfErr outcome (λ r. IfSome (wanted_by action r) (IsThere room'.world.config.bounds))
acts-there room room' share share' action (Ok reply) acts = tt
acts-there room room' share share' action (Err r) acts = refuses-there room.world room'.world share share' action r acts.acts
