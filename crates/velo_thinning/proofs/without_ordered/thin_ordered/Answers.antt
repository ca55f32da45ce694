use Rattle.std.proofs.Common.{◌≡◌, ap, ◌∙◌}
use Rattle.velo_filter.specs.declared.thinned.Thinned.{Thinned}
use Rattle.velo_filter.specs.Left.{rest_of, places_of}
use Rattle.velo_filter.specs.Tables.{left_of, marked}
use Rattle.velo_laws.specs.Ordered.{only}
use Rattle.velo_thinning.specs.Races.{no_lock, IsThinned}
use Rattle.velo_thinning.proofs.OnMarkedOut.{both_ok}
use Rattle.velo_thinning.proofs.without_ordered.thin_ordered.Goals as goal

pub thin-requires-clause-can_come_about : goal.thin-requires-clause-can_come_about
thin-requires-clause-can_come_about c = record { bounds = c.args.config.now.bounds; well_formed = c.requires.well_formed }

pub returns : goal.returns
returns c =
    let log = c.args.log.now.events in
    let marks = c.in_ok-ordered.ordered.items in
    let left = left_of c.in_ok-left.left in
    let is = c.in_ok-left.ensures ∙ ap (λ xs. only no_lock (marked xs)) c.deref.ensures.value in
    both_ok (λ (thinned : Thinned). thinned.trace.events ≡ rest_of left log) (λ (thinned : Thinned). thinned.places.items ≡ places_of left log) (IsThinned c.args.config.now.bounds log)
    (λ thinned events places. record {
      variables = marked marks;
      events = events ∙ ap (λ l. rest_of l log) is;
      places = places ∙ ap (λ l. places_of l log) is;
      ordered = c.in_ok-ordered.ensures.ordered;
      judged = c.in_ok-ordered.ensures.judged;
      free = c.in_ok-ordered.ensures.free;
    })
    c.thin.result c.thin.ensures.events c.thin.ensures.places
