use Rattle.std.proofs.Common.{[], refl, sym, subst}
use Rattle.std.specs.Prelude.{All}
use Rattle.std.proofs.lemmas.Bool.{false≢true}
use Rattle.std.proofs.lemmas.List.Elements.{All-nil}
use Rattle.velo_heap.specs.Contents.{bounds_of}
use Rattle.velo_search.specs.Parts.{rest_by, AreParts, part_at}
use Rattle.velo_search.specs.Search.{Settles}
use Rattle.velo_search.specs.Trail.{IsNoted, IsReachedBy}
use Rattle.velo_search.proofs.OnKept.{All-kept, clean-among}
use Rattle.velo_search.proofs.OnParts.{rest_by-nil}
use Rattle.velo_search.proofs.OnRuns.{IsRunOf-nil}
use Rattle.velo_search.proofs.OnTrails.{alarms-next, alarms-same, goes-next, reached-start, reached-within}
use Rattle.velo_search.proofs.searching.first_level.Goals as goal

pub settle-requires-clause-reached : goal.settle-requires-clause-reached
settle-requires-clause-reached c =
    reached-start (bounds_of c.in_ok-start.start.heap) c.args.scripts.now.kinds (rest_by (part_at c.args.scripts.now.parts)) c.args.trail.now.steps.items c.in_ok-start.start refl (c.in_ok-start.ensures.start (rest_by (part_at c.args.scripts.now.parts)) (rest_by-nil (part_at c.args.scripts.now.parts))) c.in_ok-start.ensures.place

pub settle-requires-clause-parts : goal.settle-requires-clause-parts
settle-requires-clause-parts c =
    subst (λ b. AreParts b c.args.scripts.now.kinds (part_at c.args.scripts.now.parts)) (sym c.in_ok-start.ensures.bounds) c.requires.parts

pub note_closing-requires : goal.note_closing-requires
note_closing-requires c = reached-within (bounds_of c.in_ok-start.start.heap) c.args.scripts.now.kinds (rest_by (part_at c.args.scripts.now.parts)) c.settle.new.trail.steps.items c.settle.new.state c.in_ok-settle.ensures.reached

pub returns-clause-reached : goal.returns-clause-reached
returns-clause-reached c =
    let P = IsReachedBy c.args.config.now.bounds c.args.scripts.now.kinds (rest_by (part_at c.args.scripts.now.parts)) c.note_closing.new.trail.steps.items in
    All-kept P c.new-level.result.states.items c.keep.new.self.states.items c.settle.new.state c.in_ok-keep.ensures.members
    (subst (All P) (sym c.new-level.ensures) (All-nil P))
    (subst (λ xs. IsReachedBy c.args.config.now.bounds c.args.scripts.now.kinds (rest_by (part_at c.args.scripts.now.parts)) xs c.settle.new.state) (sym c.note_closing.ensures.steps)
    (subst (λ b. IsReachedBy b c.args.scripts.now.kinds (rest_by (part_at c.args.scripts.now.parts)) c.settle.new.trail.steps.items c.settle.new.state) c.in_ok-start.ensures.bounds c.in_ok-settle.ensures.reached))

pub returns-clause-goes_on : goal.returns-clause-goes_on
returns-clause-goes_on c =
    goes-next c.args.trail.now c.settle.new.trail c.note_closing.new.trail c.in_ok-settle.ensures.goes_on c.in_ok-note_closing.ensures.goes_on

pub returns-clause-leads : goal.returns-clause-leads
returns-clause-leads c = λ n fault clean.
    let bounds = c.args.config.now.bounds in
    let scripts = c.args.scripts.now.kinds in
    let rest = rest_by (part_at c.args.scripts.now.parts) in
    let start = c.in_ok-start.start in
    let settled : Settles bounds scripts rest start c.settle.new.state = subst (λ b. Settles b scripts rest start c.settle.new.state) c.in_ok-start.ensures.bounds c.in_ok-settle.ensures.settles in
    (settled.clean n fault (clean-among bounds scripts rest n fault c.keep.new.self.states.items c.settle.new.state c.in_ok-keep.ensures.there clean)).each [] (IsRunOf-nil bounds scripts) (c.in_ok-start.ensures.start rest (rest_by-nil (part_at c.args.scripts.now.parts)))

pub returns-clause-alarms : goal.returns-clause-alarms
returns-clause-alarms c =
    let bounds = c.args.config.now.bounds in
    let scripts = c.args.scripts.now.kinds in
    let rest = rest_by (part_at c.args.scripts.now.parts) in
    let settled = c.in_ok-settle.ensures in
    let reached = subst (λ b. IsReachedBy b scripts rest c.settle.new.trail.steps.items c.settle.new.state) c.in_ok-start.ensures.bounds settled.reached in
    alarms-next bounds scripts rest c.args.trail.now c.settle.new.trail c.note_closing.new.trail settled.goes_on.first
    (alarms-same bounds scripts rest c.args.trail.now c.settle.new.trail settled.alarms)
    (c.in_ok-note_closing.ensures.alarms bounds scripts rest reached)

pub returns-clause-noted : goal.returns-clause-noted
returns-clause-noted c =
    let P = IsNoted c.note_closing.new.trail in
    All-kept P c.new-level.result.states.items c.keep.new.self.states.items c.settle.new.state c.in_ok-keep.ensures.members
    (subst (All P) (sym c.new-level.ensures) (All-nil P))
    (c.in_ok-note_closing.ensures.noted (λ alarmed. absurd (false≢true alarmed)))
