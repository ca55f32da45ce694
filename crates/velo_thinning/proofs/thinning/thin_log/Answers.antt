use Rattle.std.proofs.Common.{◌<◌, length, map, refl, sym, ap, ◌∙◌, subst, arith}
use Rattle.std.specs.Prelude.{All, slice_index}
use Rattle.velo_thinning.proofs.OnThinning.{rest-le, second-within, thinned_law}
use Rattle.velo_thinning.proofs.thinning.thin_log.Goals as goal

pub without_repeats-requires : goal.without_repeats-requires
without_repeats-requires c =
    let w = c.in_ok-ordered.ensures in
    let e = ap length w.events in
    let l = rest-le w.variables c.args.log.now.events in
    record { few = omega (arith, e, l, c.requires.few) }

pub places_through-requires : goal.places_through-requires
places_through-requires c =
    subst (λ outer. All (λ place. place < length outer) c.deref-2.result.now) (sym c.deref.ensures.value)
    (subst (λ inner. All (λ place. place < length c.in_ok-ordered.ordered.places.items) inner) (sym c.deref-2.ensures.value)
    (second-within c.args.config.now.bounds c.args.log.now.events c.in_ok-ordered.ordered c.in_ok-left.left c.requires.well_formed c.in_ok-ordered.ensures c.in_ok-left.ensures))

pub returns : goal.returns
returns c =
    thinned_law c.args.config.now.bounds c.args.log.now.events c.in_ok-ordered.ordered c.in_ok-left.left c.requires.well_formed c.in_ok-ordered.ensures c.in_ok-left.ensures
    _ refl
    (c.in_ok-places.ensures
    ∙ (ap (λ outer. map (λ place. slice_index outer place) c.deref-2.result.now) c.deref.ensures.value
    ∙ ap (λ inner. map (λ place. slice_index c.in_ok-ordered.ordered.places.items place) inner) c.deref-2.ensures.value))
