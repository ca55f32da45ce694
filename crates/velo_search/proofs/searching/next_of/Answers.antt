use Rattle.std.proofs.Common.{◌≡◌, Some, refl, sym, ap, ◌∙◌}
use Rattle.std.specs.Prelude.{slice_get}
use Rattle.velo_events.specs.Tally.{events_of}
use Rattle.velo_heap.specs.Contents.{bounds_of}
use Rattle.velo_search.specs.Parts.{rest_by, part_at}
use Rattle.velo_search.specs.Runs.{script_of}
use Rattle.velo_search.proofs.OnFaults.{wait-born}
use Rattle.velo_search.proofs.OnSearch.{due-next}
use Rattle.velo_search.proofs.searching.next_of.Goals as goal

pub returns-in_default-refusal : goal.returns-in_default-refusal
returns-in_default-refusal c = λ log run stands.
    let bounds = bounds_of c.args.state.now.heap in
    let scripts = c.args.scripts.now.kinds in
    let t = c.args.thread in
    let k = c.in-Some.kind in
    let due : slice_get (script_of scripts t.0) (events_of log t.0) ≡ Some k = ap (slice_get (script_of scripts t.0)) (sym (c.done_by.ensures (rest_by (part_at c.args.scripts.now.parts)) log stands)) ∙ sym c.in-Some.ensures in
    (refl, due-next bounds scripts c.requires.plain log t k run due (sym (c.refusal.ensures (rest_by (part_at c.args.scripts.now.parts)) log stands) ∙ c.in_default-refusal.is))

pub returns-then-is_wait : goal.returns-then-is_wait
returns-then-is_wait c = λ log run stands.
    let bounds = bounds_of c.args.state.now.heap in
    let scripts = c.args.scripts.now.kinds in
    let t = c.args.thread.0 in
    let k = c.in-Some.kind in
    let due : slice_get (script_of scripts t) (events_of log t) ≡ Some k = ap (slice_get (script_of scripts t)) (sym (c.done_by.ensures (rest_by (part_at c.args.scripts.now.parts)) log stands)) ∙ sym c.in-Some.ensures in
    let refused = sym (c.refusal.ensures (rest_by (part_at c.args.scripts.now.parts)) log stands) ∙ c.in-Some-refusal.is in
    let waits = sym c.is_wait.ensures ∙ c.if-is_wait.true in
    record {
      refusal = c.in-Some-refusal.refusal;
      turned = record { kind = k; due = due; refused = refused; born = wait-born bounds log t k c.in-Some-refusal.refusal refused waits };
      waits = waits;
    }
