-- Smaller and larger bounds, and what operations name in them.
use Rattle.std.proofs.Common.{◌<◌, subst, ◌∙◌, arith}
use Rattle.velo_events.specs.declared.config.Bounds.{Bounds}
use Rattle.velo_events.specs.declared.event.Kind.{Kind}
use Rattle.velo_events.specs.declared.event.Kind.TheVariants.{Read, Write, Acquire, Release, AcquireShared, ReleaseShared, Begin, End, Fork, Join, Exit}
use Rattle.velo_events.specs.WellFormed.{NamesKnown}
use Rattle.velo_search.specs.Fitting.{IsWithin}

pub within-also : (small middle large : Bounds) → IsWithin small middle → IsWithin middle large → IsWithin small large
within-also small middle large one other = record {
  threads = one.threads ∙ other.threads;
  variables = omega (arith, one.variables, other.variables);
  locks = omega (arith, one.locks, other.locks);
}

-- what is there in the smaller is there in the larger
pub known-within : (small large : Bounds) (k : Kind) → IsWithin small large → NamesKnown small k → NamesKnown large k
known-within small large (Read x v) w h = omega (arith, h, w.variables)
known-within small large (Write x v) w h = omega (arith, h, w.variables)
known-within small large (Acquire m) w h = omega (arith, h, w.locks)
known-within small large (Release m) w h = omega (arith, h, w.locks)
known-within small large (AcquireShared m) w h = omega (arith, h, w.locks)
known-within small large (ReleaseShared m) w h = omega (arith, h, w.locks)
known-within small large (Begin l) w h = h
known-within small large End w h = h
known-within small large (Fork u) w h = subst (λ n. u.0 < n) w.threads h
known-within small large (Join u) w h = subst (λ n. u.0 < n) w.threads h
known-within small large Exit w h = h
