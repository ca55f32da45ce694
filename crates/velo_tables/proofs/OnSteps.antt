-- The steps that an event looks up are those at the places that it looks up.
use Rattle.std.proofs.Common.{◌≡◌, ℕ, zero, suc, ◌<◌, List, [], ◌∷◌, length, get_or, Option, Some, None, refl, sym, ap, ◌∙◌, subst, arith}
use Rattle.std.specs.Prelude.{Contains}
use Rattle.std.specs.List.{filter_map, cons_option}
use Rattle.velo_arena.specs.declared.step.Step.{Step}
use Rattle.velo_events.specs.declared.config.Bounds.{Bounds}
use Rattle.velo_events.specs.declared.event.Event.{Event}
use Rattle.velo_events.specs.declared.event.Kind.{Kind}
use Rattle.velo_events.specs.declared.event.Kind.TheVariants.{Fork}
use Rattle.velo_events.specs.Event.{access_of}
use Rattle.velo_events.specs.WellFormed.{NamesKnown, MayFollow}
use Rattle.velo_events.specs.Place.{Place, looked_up}
use Rattle.velo_tables.specs.LastAccesses.{LastAccesses, entry, steps_looked_up, OthersKnown, HasItsThreads}

-- ---- what is in a list of those that have an image

module _ {X Y : Type 0} (f : X → Option Y) where
  cons_option-first : (o : Option Y) (ys : List Y) (y : Y) → o ≡ Some y → Contains (cons_option o ys) y
  cons_option-first o ys y h = subst (λ p. Contains (cons_option p ys) y) (sym h) (0, omega arith, refl)

  cons_option-further : (o : Option Y) (ys : List Y) (y : Y) → Contains ys y → Contains (cons_option o ys) y
  cons_option-further None ys y w = w
  cons_option-further (Some z) ys y w = (suc w.0, omega (arith, w.1), w.2)

  filter_map-at : (xs : List X) (x : X) (y : Y) (k : ℕ) → k < length xs → get_or xs k x ≡ x → f x ≡ Some y → Contains (filter_map f xs) y
  filter_map-at [] x y k l at h = absurd (omega arith)
  filter_map-at (z ∷ zs) x y zero l at h = cons_option-first (f z) (filter_map f zs) y (ap f at ∙ h)
  filter_map-at (z ∷ zs) x y (suc k) l at h = cons_option-further (f z) (filter_map f zs) y (filter_map-at zs x y k (omega arith) at h)

  pub filter_map-contains : (xs : List X) (x : X) (y : Y) → Contains xs x → f x ≡ Some y → Contains (filter_map f xs) y
  filter_map-contains xs x y w h = filter_map-at xs x y w.0 w.1 w.2 h

  pub filter_map-from : (xs : List X) (y : Y) → Contains (filter_map f xs) y → (x : X) × Contains xs x × (f x ≡ Some y)
  filter_map-from [] y w = absurd (omega (arith, w.1))
  filter_map-from (z ∷ zs) y w = first (f z) refl w.0 w.1 w.2 (filter_map-from zs y)
    where
      first : (o : Option Y) → f z ≡ o → (k : ℕ) → k < length (cons_option o (filter_map f zs)) → get_or (cons_option o (filter_map f zs)) k y ≡ y →
          (Contains (filter_map f zs) y → (x : X) × Contains zs x × (f x ≡ Some y)) → (x : X) × Contains (z ∷ zs) x × (f x ≡ Some y)
      first None h k l at rest = let r = rest (k, l, at) in (r.0, (suc r.1.0, omega (arith, r.1.1), r.1.2), r.2)
      first (Some v) h zero l at rest = (z, (0, omega arith, refl), h ∙ ap (λ u. Some u) at)
      first (Some v) h (suc k) l at rest = let r = rest (k, omega (arith, l), at) in (r.0, (suc r.1.0, omega (arith, r.1.1), r.1.2), r.2)

-- ---- the steps of an event

pub steps_looked_up-contains : (kept : LastAccesses) (e : Event) (p : Place) (step : Step) → Contains (looked_up e) p → entry kept p ≡ Some step → Contains (steps_looked_up kept e) step
unfolding steps_looked_up
steps_looked_up-contains kept e p step looks h = filter_map-contains (entry kept) (looked_up e) p step looks h

pub steps_looked_up-from : (kept : LastAccesses) (e : Event) (step : Step) → Contains (steps_looked_up kept e) step → (p : Place) × Contains (looked_up e) p × (entry kept p ≡ Some step)
unfolding steps_looked_up
steps_looked_up-from kept e step w = filter_map-from (entry kept) (looked_up e) step w

-- ---- the threads of an event that may follow

others_known : (bounds : Bounds) (kept : LastAccesses) (k : Kind) → length kept.threads ≡ bounds.threads → NamesKnown bounds k → OthersKnown kept (access_of k)
others_known bounds kept (Fork u) same known = omega (arith, same, known)
others_known bounds kept _ same known = tt

-- are those of the tables
pub HasItsThreads-follows : (bounds : Bounds) (kept : LastAccesses) (trace : List Event) (e : Event) → length kept.threads ≡ bounds.threads → MayFollow bounds trace e → HasItsThreads kept e
HasItsThreads-follows bounds kept trace e same follows = record { own = omega (arith, same, follows.known_thread); forked = others_known bounds kept e.kind same follows.known_names }
