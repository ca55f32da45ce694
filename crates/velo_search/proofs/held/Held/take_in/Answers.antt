use Rattle.std.proofs.Common.{◌≡◌, ◌<◌, length, slice_index_or, rules, ap, ◌∙◌}
use Rattle.std.proofs.lemmas.List.{length-set, get_or_default}
use Rattle.velo_search.specs.Free.{hold_next, no_hold}
use Rattle.velo_search.proofs.OnHolds.{done-next, left-next, held-taken}
use Rattle.velo_search.proofs.held.Held.take_in.Goals as goal

pub loop-lock-preserved : goal.loop-lock-preserved
loop-lock-preserved c =
    let old = c.args.self.now.locks.items in
    let now = c.loop-lock.self.locks.items in
    let i = c.loop-lock.lock in
    let h = c.after.result in
    let within : i < length now = search rules in
    let read : c.index.result.now ≡ slice_index_or now i no_hold = c.index.ensures ∙ get_or_default now i c.index.result.now no_hold within in
    record {
      length = length-set now i h ∙ c.loop-lock.invariant.length;
      done = done-next old now i h c.args.kind within c.loop-lock.invariant.done c.loop-lock.invariant.left (c.after.ensures ∙ ap (λ x. hold_next i x c.args.kind) read);
      left = left-next old now i h c.args.kind within c.loop-lock.invariant.left;
    }

pub returns : goal.returns
returns c =
    held-taken c.args.self.now.locks.items c.loop-lock.self.locks.items c.args.kind c.loop-lock.invariant.length
    (λ m within. c.loop-lock.invariant.done m (search rules))
