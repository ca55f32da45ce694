use Rattle.std.proofs.Common.{◌≡◌, ◌<◌, ◌&&◌, ◌||◌, ℕ, ◌∷◌, length, slice_index_or, sym, ap, ◌∙◌, subst}
use Rattle.std.specs.Prelude.{IsTrue, IsFalse, ◌==◌}
use Rattle.std.specs.List.{list_any}
use Rattle.std.proofs.lemmas.Bool.{or_left, or_right, or_from, false≢true}
use Rattle.velo_events.specs.Event.{thread_of}
use Rattle.velo_search.specs.declared.group.Group.{Group}
use Rattle.velo_search.specs.declared.group.Group.TheVariants.{OfThread}
use Rattle.velo_search.specs.Groups.{is_in, is_member, also_looks_at}
use Rattle.velo_events.specs.ThreadSets.{has_thread}
use Rattle.velo_search.specs.Summary.{is_behind, is_beyond, closes_cycle, reached_after, beyond_after}
use Rattle.velo_search.specs.Marks.{blank_mark, group_count, mark_of, IsMarkAfter}
use Rattle.velo_search.specs.Kept.{summary_of}
use Rattle.velo_search.proofs.OnSteps.{access-known, noted-next, quiet-next, marks-reached, marks-beyond}
use Rattle.velo_search.proofs.marks.Marks.step.Goals as goal
use Rattle.velo_search.proofs.marks.Marks.step.Goals.{then-self, else-self}

pub returns-then-has-clause-next : goal.returns-then-has-clause-next
returns-then-has-clause-next c log well follows is stands =
    let e = c.args.event.now in
    let s = summary_of c.args.self.now in
    let beyond : (u : ℕ) → has_thread c.looked_at-looked.result.beyond u ≡ is_beyond s e u = λ u. c.looked_at-looked.ensures.beyond u ∙ ap (λ a. list_any (λ g. s.beyond g u) (OfThread e.thread ∷ also_looks_at a)) c.access-access.ensures in
    let closes : IsTrue (s.alarmed || closes_cycle s e) = elim c.if-self.branch [
      | then-self w ↦ or_left s.alarmed (closes_cycle s e) w.if-self.true
      | else-self w ↦ or_right s.alarmed (closes_cycle s e) (sym (beyond e.thread.0) ∙ (sym w.has.ensures ∙ (sym w.value-is ∙ c.if-has.true)))
    ] in
    noted-next c.args.self.now.bounds log e well follows c.args.self.now.few c.args.inside is s (summary_of c.alarm.new.self) stands closes c.alarm.ensures.alarmed

pub returns-else-has-clause-next : goal.returns-else-has-clause-next
returns-else-has-clause-next c log well follows is stands =
    let bounds = c.args.self.now.bounds in
    let e = c.args.event.now in
    let inside = c.args.inside in
    let s = summary_of c.args.self.now in
    let reached : (u : ℕ) → has_thread c.looked_at-looked.result.reached u ≡ is_behind s e u = λ u. c.looked_at-looked.ensures.reached u ∙ ap (λ a. list_any (λ g. s.reached g u) (OfThread e.thread ∷ also_looks_at a)) c.access-access.ensures in
    let beyond : (u : ℕ) → has_thread c.looked_at-looked.result.beyond u ≡ is_beyond s e u = λ u. c.looked_at-looked.ensures.beyond u ∙ ap (λ a. list_any (λ g. s.beyond g u) (OfThread e.thread ∷ also_looks_at a)) c.access-access.ensures in
    let mid = c.enter.new.self.marks.items in
    let now = c.spread.new.self.marks.items in
    let behind = c.looked_at-looked.result.reached in
    let room : length mid ≡ group_count bounds = subst (λ b. length mid ≡ group_count b) c.enter.ensures.bounds c.enter.new.self.room in
    let entered : (g : Group) (u : ℕ) → has_thread (mark_of bounds mid g).reached u ≡ ((is_in e g && thread_of e == u) || has_thread (mark_of bounds c.args.self.now.marks.items g).reached u) =
    subst (λ a. (g : Group) (u : ℕ) → has_thread (mark_of bounds mid g).reached u ≡ ((is_member e.thread a g && thread_of e == u) || has_thread (mark_of bounds c.args.self.now.marks.items g).reached u)) c.access-access.ensures c.enter.ensures.reached in
    let each : (k : ℕ) → k < length mid → IsMarkAfter e.thread.0 behind inside (slice_index_or mid k blank_mark) (slice_index_or now k blank_mark) = c.spread.ensures.each in
    let none : IsFalse (s.alarmed || closes_cycle s e) = elim c.if-self.branch [
      | then-self w ↦ absurd (false≢true (sym c.if-has.false ∙ (w.value-is ∙ w.if-self.true)))
      | else-self w ↦ or_from s.alarmed (closes_cycle s e) w.if-self.false (sym (beyond e.thread.0) ∙ (sym w.has.ensures ∙ (sym w.value-is ∙ c.if-has.false)))
    ] in
    let quiet : IsFalse s.alarmed = elim c.if-self.branch [
      | then-self w ↦ absurd (false≢true (sym c.if-has.false ∙ (w.value-is ∙ w.if-self.true)))
      | else-self w ↦ w.if-self.false
    ] in
    quiet-next bounds log e well follows c.args.self.now.few inside is s _ stands none (c.spread.ensures.alarmed ∙ (c.enter.ensures.alarmed ∙ quiet))
    (subst (λ b. (g : Group) (u : ℕ) → has_thread (mark_of b now g).reached u ≡ reached_after inside s e g u) (sym (c.spread.ensures.bounds ∙ c.enter.ensures.bounds))
    (marks-reached bounds s.alarmed c.args.self.now.marks.items mid now e behind inside c.requires.thread (access-known bounds e.kind c.requires.names) room entered c.enter.ensures.beyond each reached))
    (subst (λ b. (g : Group) (u : ℕ) → has_thread (mark_of b now g).beyond u ≡ beyond_after inside s e g u) (sym (c.spread.ensures.bounds ∙ c.enter.ensures.bounds))
    (marks-beyond bounds s.alarmed c.args.self.now.marks.items mid now e behind inside c.requires.thread (access-known bounds e.kind c.requires.names) room entered c.enter.ensures.beyond each reached))
