use Rattle.std.proofs.Common.{◌<◌, List, length, sym, subst}
use Rattle.std.specs.Prelude.{All}
use Rattle.velo_events.specs.declared.event.Event.{Event}
use Rattle.velo_predict.specs.declared.difference.Difference.{Difference}
use Rattle.velo_delays.proofs.OnFound.{within_log}
use Rattle.velo_delays.proofs.judged.differing_of.Goals as goal

pub as_recorded-requires : goal.as_recorded-requires
as_recorded-requires c =
    subst (λ (ds : List Difference). All (λ d. d.recorded < length c.as_slice.result.now) ds) (sym c.deref.ensures.value)
    (subst (λ (es : List Event). All (λ (d : Difference). d.recorded < length es) c.in-Some.differences.items) (sym c.as_slice.ensures)
    (within_log c.args.log.now.events c.args.trace.now.events c.in-Some.differences.items (rw c.in-Some.is at c.in_ok-found.ensures.listed)))
