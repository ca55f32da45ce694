use Rattle.std.proofs.Common.{◌≡◌, ◌<◌, ◌==◌, ◌&&◌, ◌||◌, ℕ, length, slice_index_or, slice_set, sym, ap, ◌∙◌, subst}
use Rattle.std.proofs.lemmas.List.{get_or_default}
use Rattle.velo_search.specs.declared.group.Group.{Group}
use Rattle.velo_search.specs.declared.mark.Mark.{Mark}
use Rattle.velo_events.specs.ThreadSets.{has_thread}
use Rattle.velo_search.specs.Marks.{blank_mark, number_of, mark_of, same_group}
use Rattle.velo_search.proofs.OnNumbers.{put-reached}
use Rattle.velo_search.proofs.marks.Marks.put.Goals as goal

pub returns-clause-reached : goal.returns-clause-reached
returns-clause-reached c =
    let bounds = c.args.self.now.bounds in
    let marks = c.args.self.now.marks.items in
    let h = c.args.group in
    let t = c.args.thread.0 in
    let m : Mark = record { reached = c.with.result; beyond = c.index_mut.result.now.beyond } in
    let number = c.number-number.ensures.number in
    let within : number_of bounds h < length marks = subst (λ k. k < length marks) number c.number-number.ensures.within in
    let read : c.index.result.now ≡ slice_index_or marks (number_of bounds h) blank_mark =
    subst (λ k. c.index.result.now ≡ slice_index_or marks k c.index.result.now) number c.index.ensures ∙ get_or_default marks (number_of bounds h) c.index.result.now blank_mark within in
    let with : (u : ℕ) → has_thread m.reached u ≡ (t == u || has_thread (slice_index_or marks (number_of bounds h) blank_mark).reached u) =
    λ u. c.with.ensures.members u ∙ ap (λ x. t == u || has_thread x.reached u) read in
    subst (λ k. (g : Group) (u : ℕ) → has_thread (mark_of bounds (slice_set marks k m) g).reached u ≡ ((same_group h g && t == u) || has_thread (mark_of bounds marks g).reached u)) (sym number)
    (put-reached bounds marks h c.requires.known within m t with)
