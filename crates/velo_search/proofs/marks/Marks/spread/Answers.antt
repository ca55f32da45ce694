use Rattle.std.proofs.Common.{◌≡◌, ◌<◌, length, slice_index_or, rules, ◌∙◌, subst}
use Rattle.std.proofs.lemmas.List.{length-set, get_or_default}
use Rattle.velo_search.specs.Marks.{blank_mark, IsMarkAfter}
use Rattle.velo_search.proofs.OnMarks.{done-next, left-next}
use Rattle.velo_search.proofs.marks.Marks.spread.Goals as goal

pub loop-i-preserved : goal.loop-i-preserved
loop-i-preserved c =
    let old = c.args.self.now.marks.items in
    let now = c.loop-i.self.marks.items in
    let i = c.loop-i.i in
    let m = c.after.result in
    let within : i < length now = search rules in
    let read : c.index.result.now ≡ slice_index_or now i blank_mark = c.index.ensures ∙ get_or_default now i c.index.result.now blank_mark within in
    let after = subst (λ x. IsMarkAfter c.args.thread.0 c.args.behind c.args.inside x m) read c.after.ensures in
    record {
      bounds = c.loop-i.invariant.bounds;
      alarmed = c.loop-i.invariant.alarmed;
      length = length-set now i m ∙ c.loop-i.invariant.length;
      done = done-next c.args.thread.0 c.args.behind c.args.inside old now i m within c.loop-i.invariant.done c.loop-i.invariant.left after;
      left = left-next c.args.thread.0 c.args.behind c.args.inside old now i m within c.loop-i.invariant.left;
    }
