-- The room for the node of an event.
use Rattle.std.proofs.Common.{◌≡◌, List, [], ◌∷◌, Option, refl, subst, inl, inr, ⊎_elim}
use Rattle.std.specs.Prelude.{filter_map}
use Rattle.velo_events.specs.declared.event.Event.{Event}
use Rattle.velo_events.specs.Place.{Place, looked_up}
use Rattle.velo_graph.specs.Nodes.{Nodes}
use Rattle.velo_merge.specs.Merge.{GetsNew}
use Rattle.velo_merge.specs.Named.{live_stamps}
use Rattle.velo_tables.specs.LastAccesses.{LastAccesses, entry, steps_looked_up}
use Rattle.velo_monitor.specs.Answers.{NeedsNode}
use Rattle.velo_monitor.specs.Watched.{Watched}
use Rattle.velo_world.specs.NodeRoom.{HasSlot}

filter_map-same : {X Y : Type 0} (f g : X → Option Y) (xs : List X) → ((x : X) → f x ≡ g x) → filter_map f xs ≡ filter_map g xs
filter_map-same f g [] same = refl
filter_map-same f g (x ∷ xs) same = rw (same x, filter_map-same f g xs same) refl

steps-reserved : (old new : LastAccesses) (e : Event) → ((p : Place) → entry new p ≡ entry old p) → steps_looked_up new e ≡ steps_looked_up old e
unfolding steps_looked_up
steps-reserved old new e same = filter_map-same (entry new) (entry old) (looked_up e) same

-- a monitor that made room looks up the same steps
pub NeedsNode-reserved : (old new : Watched) (trace : List Event) (e : Event) → new.nodes ≡ old.nodes → ((p : Place) → entry new.kept p ≡ entry old.kept p) → NeedsNode new trace e → NeedsNode old trace e
NeedsNode-reserved old new trace e nodes same needs =
    ⊎_elim inl (λ outside. inr (
      outside.0,
      subst (λ (n : Nodes). GetsNew n (live_stamps n (steps_looked_up old.kept e))) nodes
          (subst (λ steps. GetsNew new.nodes (live_stamps new.nodes steps)) (steps-reserved old.kept new.kept e same) outside.1),
    )) needs

-- so it finds the same slot
pub HasSlot-reserved : (old new : Watched) (trace : List Event) (e : Event) → new.nodes ≡ old.nodes → ((p : Place) → entry new.kept p ≡ entry old.kept p) → HasSlot old trace e → HasSlot new trace e
HasSlot-reserved old new trace e nodes entries has = record { slot = λ needs. rw nodes (has.slot (NeedsNode-reserved old new trace e nodes entries needs)) }
