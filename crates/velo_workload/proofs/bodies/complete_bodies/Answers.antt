use Rattle.std.proofs.Common.{◌++◌, ◌∷◌, [], ◌∙◌, ap, map, arith}
use Rattle.std.proofs.lemmas.List.{map-append}
use Rattle.velo_workload.specs.Known.{known_of}
use Rattle.velo_workload.specs.Outline.{names_in}
use Rattle.velo_workload.proofs.OnCompleting.{draft_wrong, draft_next, left_next}
use Rattle.velo_workload.proofs.bodies.complete_bodies.Goals as goal

pub returns-in-Err-clause-judged : goal.returns-in-Err-clause-judged
returns-in-Err-clause-judged c =
    let loop = c.loop-place in
    draft_wrong (names_in (known_of c.args.outline.now)) loop.place-items c.args.drafts.items loop.place-index c.place-item.result c.replace-draft.result (omega arith) loop.invariant.left
    c.replace-draft.ensures.value (map (λ body. body.items) loop.bodies.items) loop.invariant.completed c.in-Err.fault c.in-Err.ensures.judged

pub loop-place-preserved : goal.loop-place-preserved
loop-place-preserved c =
    let loop = c.loop-place in
    let pushed = c.push_reserved.ensures.items ∙ ap (λ bodies. bodies ++ c.in-Ok.body ∷ []) c.in_ok-reserve.ensures.items in
    record {
      left = left_next loop.place-items c.args.drafts.items loop.place-index c.replace-draft.new.dest loop.invariant.left;
      completed =
          draft_next (names_in (known_of c.args.outline.now)) loop.place-items c.args.drafts.items loop.place-index c.place-item.result c.replace-draft.result (omega arith) loop.invariant.left
          c.replace-draft.ensures.value (map (λ body. body.items) loop.bodies.items) loop.invariant.completed
          (map (λ body. body.items) c.push_reserved.new.self.items) c.in-Ok.body.items c.in-Ok.ensures.judged c.in-Ok.ensures.body
          (ap (λ bodies. map (λ body. body.items) bodies) pushed ∙ map-append (λ body. body.items) loop.bodies.items (c.in-Ok.body ∷ []));
    }
