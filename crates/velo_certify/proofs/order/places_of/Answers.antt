use Rattle.std.proofs.Common.{◌≡◌, ◌<◌, length, sym, subst, ap, ◌∙◌}
use Rattle.std.specs.Prelude.{ℕ, slice_index}
use Rattle.std.proofs.lemmas.List.{length-replicate}
use Rattle.velo_certify.specs.Order.{HasEachOnce, ArePlaces}
use Rattle.velo_certify.proofs.OnOrders.{fails-missing, ArePlaces-by}
use Rattle.velo_certify.proofs.order.places_of.Goals as goal

pub returns-then-not-is_full-clause-none : goal.returns-then-not-is_full-clause-none
returns-then-not-is_full-clause-none c = λ once.
    let places = c.fill_places.new.places.items in
    let count : length places ≡ c.args.count = c.fill_places.ensures.count ∙ (ap length (c.in_ok-places.ensures.items_if_clones_equal (λ y e. e)) ∙ length-replicate c.args.count 0) in
    let none = c.is_full.ensures.no c.if-not-is_full.true in
    fails-missing c.args.order.now places (c.fill_places.ensures.yes c.if-not-fill_places.false) none.0
    (subst (λ xs. none.0 < length xs) c.deref.ensures.value none.1) (ap (λ xs. slice_index xs none.0) (sym c.deref.ensures.value) ∙ none.2)
    (subst (λ n. HasEachOnce n c.args.order.now) (sym count) once)

pub returns-clause-places : goal.returns-clause-places
returns-clause-places c =
    let places = c.fill_places.new.places.items in
    let count : length places ≡ c.args.count = c.fill_places.ensures.count ∙ (ap length (c.in_ok-places.ensures.items_if_clones_equal (λ y e. e)) ∙ length-replicate c.args.count 0) in
    subst (λ n. ArePlaces n c.args.order.now places) count
    (ArePlaces-by c.args.order.now places (c.fill_places.ensures.yes c.if-not-fill_places.false)
    (subst (λ xs. (i : ℕ) → i < length xs → 0 < slice_index xs i) c.deref.ensures.value (c.is_full.ensures.yes c.if-not-is_full.false)))
