use Rattle.std.proofs.Common.{◌<◌, length, map, refl, sym, ap, ◌∙◌, subst, arith}
use Rattle.std.specs.Prelude.{All, slice_index}
use Rattle.velo_filter.specs.Left.{places_of, rest_of}
use Rattle.velo_filter.specs.Tables.{left_of}
use Rattle.velo_thinning.specs.Thinning.{IsThinnedLog}
use Rattle.velo_thinning.proofs.OnThinning.{length-places, map-place_of, rest-fewer}
use Rattle.velo_thinning.proofs.thinning.thin_rest.Goals as goal

pub thin-requires-clause-can_come_about : goal.thin-requires-clause-can_come_about
thin-requires-clause-can_come_about c = record { bounds = c.args.config.now.bounds; well_formed = c.requires.well_formed }

pub thin_log-requires-clause-few : goal.thin_log-requires-clause-few
thin_log-requires-clause-few c =
    let e = ap length c.in_ok-rest.ensures.events in
    let l = rest-fewer (left_of c.args.omitted.now) c.args.log.now.events in
    omega (arith, e, l, c.requires.few)

pub thin_log-requires-clause-well_formed : goal.thin_log-requires-clause-well_formed
thin_log-requires-clause-well_formed c = c.in_ok-rest.ensures.well_formed c.args.config.now.bounds c.requires.well_formed

pub places_through-requires : goal.places_through-requires
places_through-requires c =
    let omitted = left_of c.args.omitted.now in
    let log = c.args.log.now.events in
    let many = ap length c.in_ok-rest.ensures.places ∙ (length-places omitted log ∙ sym (ap length c.in_ok-rest.ensures.events)) in
    subst (λ outer. All (λ place. place < length outer) c.deref-2.result.now) (sym c.deref.ensures.value)
    (subst (λ inner. All (λ place. place < length c.in_ok-rest.rest.places.items) inner) (sym c.deref-2.ensures.value)
    (subst (λ n. All (λ place. place < n) c.in_ok-left.left.places.items) (sym many) c.in_ok-left.ensures.within))

pub returns : goal.returns
returns c =
    let omitted = left_of c.args.omitted.now in
    let log = c.args.log.now.events in
    let thinned = subst (λ es. IsThinnedLog c.args.config.now.bounds es c.in_ok-left.left) c.in_ok-rest.ensures.events c.in_ok-left.ensures in
    let l = rest-fewer omitted log in
    let f = thinned.fewer in
    record {
      rest = c.in_ok-left.left;
      is_thinned = thinned;
      events = refl;
      places =
          c.in_ok-in_log.ensures
          ∙ (ap (λ outer. map (λ place. slice_index outer place) c.deref-2.result.now) (c.deref.ensures.value ∙ c.in_ok-rest.ensures.places)
          ∙ (ap (λ inner. map (λ place. slice_index (places_of omitted log) place) inner) c.deref-2.ensures.value
          ∙ map-place_of omitted log c.in_ok-left.left.places.items));
      fewer = omega (arith, f, l);
    }
