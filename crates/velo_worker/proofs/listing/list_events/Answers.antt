use Rattle.std.proofs.Common.{[], ◌∷◌, ◌++◌, sym, ap, ◌∙◌}
use Rattle.std.specs.Prelude.{filter}
use Rattle.velo_worker.specs.Counts.{has_event}
use Rattle.velo_worker.proofs.OnListing.{listed-all, listed-next}
use Rattle.velo_worker.proofs.listing.list_events.Goals as goal

pub loop-statement-preserved : goal.loop-statement-preserved
loop-statement-preserved c =
    let l = c.loop-statement in
    ap (λ xs. xs ++ filter has_event c.advance.new.self) c.in_ok-note_event.ensures
    ∙ (ap (λ xs. (l.events.items ++ filter has_event (c.in-Some.statement ∷ [])) ++ filter has_event xs) c.advance.ensures
    ∙ (listed-next l.events.items l.left c.in-Some.statement (sym c.in-Some.ensures) ∙ l.invariant))

pub returns : goal.returns
returns c =
    let l = c.loop-statement in
    listed-all l.events.items l.left (sym c.next.ensures ∙ c.in_default.is) ∙ l.invariant
