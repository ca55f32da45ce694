-- A write of a cell without reads looks up one step beside its thread's last.
use Rattle.std.proofs.Common.{◌≡◌, ℕ, ◌++◌, List, [], ◌∷◌, Option, Some, None, refl, ap, ◌∙◌}
use Rattle.std.specs.Prelude.{map}
use Rattle.std.specs.List.{filter_map, cons_option}
use Rattle.std.specs.Option.{option_to_list}
use Rattle.std.proofs.lemmas.Nat.Bits.{bit_at-zero}
use Rattle.velo_events.specs.declared.event.Event.{Event}
use Rattle.velo_events.specs.declared.event.Access.{Access}
use Rattle.velo_events.specs.declared.event.Access.TheVariants.{Exclusive}
use Rattle.velo_events.specs.declared.event.Cell.{Cell}
use Rattle.velo_events.specs.Event.{thread_of, access_of}
use Rattle.velo_events.specs.Place.{LastOf, LastWrite, LastRead, thread_numbers, also_looked_up}
use Rattle.velo_arena.specs.declared.step.Step.{Step}
use Rattle.velo_tables.specs.LastAccesses.{LastAccesses, entry, steps_looked_up, CoverReaders}
use Rattle.velo_tables.proofs.OnReaders.{filter_map-cons}

no-reads : (kept : LastAccesses) (x : ℕ) → CoverReaders kept x 0 → (ts : List ℕ) → filter_map (entry kept) (map (LastRead x) ts) ≡ []
no-reads kept x cover [] = refl
no-reads kept x cover (t ∷ ts) =
    ap (λ (o : Option Step). cons_option o (filter_map (entry kept) (map (LastRead x) ts))) (cover.each t (bit_at-zero t)) ∙ no-reads kept x cover ts

alone : (o : Option Step) → cons_option o [] ≡ option_to_list o
alone None = refl
alone (Some step) = refl

pub one-beside : (kept : LastAccesses) (e : Event) (c : Cell) → access_of e.kind ≡ Exclusive c → CoverReaders kept c.0 0
    → steps_looked_up kept e ≡ option_to_list (entry kept (LastOf (thread_of e))) ++ option_to_list (entry kept (LastWrite c.0))
unfolding steps_looked_up
one-beside kept e c is cover =
    filter_map-cons (entry kept) (LastOf (thread_of e)) (also_looked_up (access_of e.kind))
    ∙ ap (λ (a : Access). option_to_list (entry kept (LastOf (thread_of e))) ++ filter_map (entry kept) (also_looked_up a)) is
    ∙ ap (λ (ys : List Step). option_to_list (entry kept (LastOf (thread_of e))) ++ cons_option (entry kept (LastWrite c.0)) ys) (no-reads kept c.0 cover thread_numbers)
    ∙ ap (λ (ys : List Step). option_to_list (entry kept (LastOf (thread_of e))) ++ ys) (alone (entry kept (LastWrite c.0)))
