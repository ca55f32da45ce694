use Rattle.std.proofs.Common.{◌≡◌, List, [], ◌∷◌, ◌++◌, length, take, get_or, sym, ap, ◌∙◌, subst, arith}
use Rattle.std.proofs.lemmas.List.{length-take-le}
use Rattle.std.proofs.lemmas.Option.{slice_get-get_or}
use Rattle.velo_events.specs.declared.event.Event.{Event}
use Rattle.velo_events.specs.declared.event.Kind.TheVariants.{Read}
use Rattle.velo_events.specs.WellFormed.{MayFollow}
use Rattle.velo_events.proofs.OnScans.{take-next}
use Rattle.velo_heap.specs.Contents.{bounds_of, IsHeapOf, IsAdmitted}
use Rattle.velo_delays.specs.Anew.{renewed, IsRenewedSoFar}
use Rattle.velo_delays.proofs.OnAnew.{MayFollow-renewed, IsRenewedSoFar-push}
use Rattle.velo_delays.proofs.anew.take_in.Goals as goal

abbrev none : Event
none = record { thread = record { 0 = 0 }; kind = Read (record { 0 = 0 }) 0 }

pub renewed-event-requires-clause-names : goal.renewed-event-requires-clause-names
renewed-event-requires-clause-names c =
    (c.requires.well_formed.each c.args.position _ (slice_get-get_or c.args.events.now c.args.position none c.requires.within)).known_names

pub apply-requires : goal.apply-requires
apply-requires c =
    let e = get_or c.args.events.now c.args.position none in
    let anew = c.args.anew.now.events in
    let stands = c.requires.stands in
    let follows = c.requires.well_formed.each c.args.position e (slice_get-get_or c.args.events.now c.args.position none c.requires.within) in
    let counts : length anew ≡ c.args.position = stands.is_renewed.as_long ∙ length-take-le c.args.position c.args.events.now (omega arith) in
    let is : c.renewed-event.result ≡ renewed anew e = c.renewed-event.ensures anew stands.is_heap counts in
    record {
      trace = anew;
      stands = stands.is_heap;
      follows = subst (MayFollow (bounds_of c.args.heap.now) anew) (sym is) (MayFollow-renewed (bounds_of c.args.heap.now) (take c.args.position c.args.events.now) anew e stands.same follows);
    }

pub returns-clause-stands : goal.returns-clause-stands
returns-clause-stands c =
    let events = c.args.events.now in
    let e = get_or events c.args.position none in
    let anew = c.args.anew.now.events in
    let stands = c.requires.stands in
    let counts : length anew ≡ c.args.position = stands.is_renewed.as_long ∙ length-take-le c.args.position events (omega arith) in
    let is : c.renewed-event.result ≡ renewed anew e = c.renewed-event.ensures anew stands.is_heap counts in
    let pushed : c.push.new.self.events ≡ anew ++ renewed anew e ∷ [] = c.in_ok-push.ensures.ok ∙ ap (λ (x : Event). anew ++ x ∷ []) is in
    let heap : IsHeapOf c.apply.new.self (anew ++ renewed anew e ∷ []) = subst (λ (x : Event). IsHeapOf c.apply.new.self (anew ++ x ∷ [])) is (c.apply.ensures.next anew stands.is_heap) in
    subst (λ es. IsRenewedSoFar es c.apply.new.self c.push.new.self.events) (sym (take-next events c.args.position e (slice_get-get_or events c.args.position none c.requires.within)))
    (subst (IsRenewedSoFar (take c.args.position events ++ e ∷ []) c.apply.new.self) (sym pushed) (IsRenewedSoFar-push (take c.args.position events) e c.args.heap.now c.apply.new.self anew stands heap))
