-- Scripts of a few operations, and what is free in them.
use Rattle.std.proofs.Common.{ℕ, zero, suc, List, [], ◌∷◌, refl}
use Rattle.std.specs.Prelude.{IsTrue, IsFalse}
use Rattle.velo_events.specs.declared.event.Kind.{Kind}
use Rattle.velo_events.specs.declared.event.Kind.TheVariants.{Read, Write, Acquire, Release, AcquireShared, ReleaseShared, Fork, Join, Exit}
use Rattle.velo_events.specs.declared.event.LockId.{LockId}
use Rattle.velo_events.specs.declared.event.VarId.{VarId}
use Rattle.velo_events.specs.Block.{any_below}
use Rattle.velo_movers.specs.Scripts.{has_from, shares_from, is_free}

x : VarId
x = record { 0 = 0 }

m : LockId
m = record { 0 = 0 }

-- a read and a write under a lock
locked : List Kind
locked = Acquire m ∷ Read x 0 ∷ Write x 0 ∷ Release m ∷ Exit ∷ []

-- a read and a write
open_ : List Kind
open_ = Read x 0 ∷ Write x 0 ∷ Exit ∷ []

-- a read under the lock, a write behind it
late : List Kind
late = Acquire m ∷ Read x 0 ∷ Release m ∷ Write x 0 ∷ Exit ∷ []

two : List Kind → List Kind → ℕ → List Kind
two first second zero = first
two first second (suc zero) = second
two first second _ = []

-- thread 0 has done so many, thread 1 so many
done : ℕ → ℕ → ℕ → ℕ
done first second zero = first
done first second _ = second

-- under one lock all is free but the acquire
locked_acquire : IsFalse (is_free 2 1 (two locked locked) (done 0 0) 0 (Acquire m))
unfolding is_free any_below has_from shares_from two done locked x m
locked_acquire = refl

locked_read : IsTrue (is_free 2 1 (two locked locked) (done 1 0) 0 (Read x 0))
unfolding is_free any_below has_from shares_from two done locked x m
locked_read = refl

locked_write : IsTrue (is_free 2 1 (two locked locked) (done 2 0) 0 (Write x 0))
unfolding is_free any_below has_from shares_from two done locked x m
locked_write = refl

locked_release : IsTrue (is_free 2 1 (two locked locked) (done 3 0) 0 (Release m))
unfolding is_free any_below has_from shares_from two done locked x m
locked_release = refl

-- once the other thread has acquired for the last time the acquire is free
last_acquire : IsTrue (is_free 2 1 (two locked locked) (done 0 1) 0 (Acquire m))
unfolding is_free any_below has_from shares_from two done locked x m
last_acquire = refl

-- beside a thread that takes no lock nothing is free under it
one_sided : IsFalse (is_free 2 1 (two locked open_) (done 2 0) 0 (Write x 0))
unfolding is_free any_below has_from shares_from two done locked open_ x m
one_sided = refl

-- a read is beside a read
readers : IsTrue (is_free 2 1 (two (Read x 0 ∷ Exit ∷ []) (Read x 0 ∷ Exit ∷ [])) (done 0 0) 0 (Read x 0))
unfolding is_free any_below has_from shares_from two done x m
readers = refl

-- behind its release a lock guards nothing
released : IsFalse (is_free 2 1 (two locked late) (done 2 0) 0 (Write x 0))
unfolding is_free any_below has_from shares_from two done locked late x m
released = refl

-- two threads fork a third, or one joins what the other forks
twice : IsFalse (is_free 3 1 (two (Fork (record { 0 = 2 }) ∷ Exit ∷ []) (Fork (record { 0 = 2 }) ∷ Exit ∷ [])) (done 0 0) 0 (Fork (record { 0 = 2 })))
unfolding is_free any_below has_from shares_from two done x m
twice = refl

early : IsFalse (is_free 3 1 (two (Fork (record { 0 = 2 }) ∷ Exit ∷ []) (Join (record { 0 = 2 }) ∷ Exit ∷ [])) (done 0 0) 0 (Fork (record { 0 = 2 })))
unfolding is_free any_below has_from shares_from two done x m
early = refl

-- a read under a share of the lock
reading : List Kind
reading = AcquireShared m ∷ Read x 0 ∷ ReleaseShared m ∷ Exit ∷ []

-- beside a writer that has the lock alone the read and the release are free, the share is not
shared_acquire : IsFalse (is_free 2 1 (two reading locked) (done 0 0) 0 (AcquireShared m))
unfolding is_free any_below has_from shares_from two done locked reading x m
shared_acquire = refl

shared_read : IsTrue (is_free 2 1 (two reading locked) (done 1 0) 0 (Read x 0))
unfolding is_free any_below has_from shares_from two done locked reading x m
shared_read = refl

locked_write_beside : IsTrue (is_free 2 1 (two locked reading) (done 2 0) 0 (Write x 0))
unfolding is_free any_below has_from shares_from two done locked reading x m
locked_write_beside = refl

shared_release : IsTrue (is_free 2 1 (two reading locked) (done 2 0) 0 (ReleaseShared m))
unfolding is_free any_below has_from shares_from two done locked reading x m
shared_release = refl

-- beside sharers alone the share is free
sharers : IsTrue (is_free 2 1 (two reading reading) (done 0 0) 0 (AcquireShared m))
unfolding is_free any_below has_from shares_from two done reading x m
sharers = refl
