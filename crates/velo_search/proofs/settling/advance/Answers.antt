use Rattle.std.proofs.Common.{◌≡◌, sym, ap, ◌∙◌, subst}
use Rattle.velo_events.specs.Event.{thread_of}
use Rattle.velo_events.specs.Tally.{events_of}
use Rattle.velo_heap.specs.Contents.{bounds_of}
use Rattle.velo_search.specs.Parts.{rest_by, IsPart, part_at}
use Rattle.velo_search.proofs.settling.advance.Goals as goal

pub done_by-requires : goal.done_by-requires
done_by-requires c = c.requires.admitted.follows.known_thread

pub returns-clause-next : goal.returns-clause-next
returns-clause-next c = λ log run stands.
    let rest = rest_by (part_at c.args.scripts.now.parts) in
    let e = c.args.event.now in
    let part : c.part-part.result ≡ (part_at c.args.scripts.now.parts) (thread_of e) (events_of log (thread_of e)) = c.part-part.ensures ∙ ap ((part_at c.args.scripts.now.parts) (thread_of e)) (c.done_by.ensures rest log stands) in
    c.step.ensures.next rest log stands (subst (IsPart rest (bounds_of c.args.state.now.heap) log e) (sym part) (c.requires.parts.each log e run))
