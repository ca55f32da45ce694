use Rattle.std.proofs.Common.{◌≡◌, ℕ, ◌+◌, ◌≤◌, ◌<◌, ◌∷◌, ◌++◌, [], List, length, length-append, refl, ap, sym, subst, ◌∙◌, arith, rules}
use Rattle.std.specs.Prelude.{IsTrue, IsFalse, is_some}
use Rattle.std.proofs.lemmas.Result.{err_from_is_err_and, on_ok_weaker}
use Rattle.velo_events.specs.declared.config.Config.{Config}
use Rattle.velo_events.specs.declared.event.Event.{Event}
use Rattle.velo_watch.specs.declared.endless.EndlessWatch.{EndlessWatch}
use Rattle.velo_watch.proofs.OnEndless.{next_of, takes_in, judged_still, not_in_time, no_cycle_before, piece_before, none_is, well_next, judges_cut}
use Rattle.velo_watch.proofs.endless.EndlessWatch.judge.Goals as goal

pub take_in-requires : goal.take_in-requires
take_in-requires c =
    let can = c.requires.goes_on in
    next_of c.args.self.now.whole can.log c.args.event.now can.whole (c.requires.flawless can.log can.whole) (let less = c.requires.goes_on.few in let most = c.given-count.ensures.few in let is = c.given-count.ensures.given in omega (arith, less, most, is))

pub returns-then-is_some-clause-goes_on : goal.returns-then-is_some-clause-goes_on
returns-then-is_some-clause-goes_on c = takes_in c.args.self.now _ c.args.event.now c.requires.goes_on c.take_in.ensures.next c.take_in.ensures.bounds c.requires.goes_on.piece refl refl

pub returns-then-is_some-clause-judges : goal.returns-then-is_some-clause-judges
returns-then-is_some-clause-judges c = λ log h count.
    let w = c.args.self.now in
    let on : IsTrue (is_some w.alarm) = search rules in
    record {
      whole = c.take_in.ensures.next log h.whole;
      bounds = c.take_in.ensures.bounds ∙ h.bounds;
      judged = judged_still log c.args.event.now w.piece w.alarm on h.judged;
      in_time = not_in_time (log ++ c.args.event.now ∷ []) w.piece w.alarm on;
    }

pub returns-in_err-self-clause-judges : goal.returns-in_err-self-clause-judges
returns-in_err-self-clause-judges c = λ log h count.
    let w = c.args.self.now in
    let e = c.args.event.now in
    let off : IsFalse (is_some w.alarm) = search rules in
    let none = no_cycle_before log w.piece w.alarm off h.judged in
    let k = piece_before log w.piece w.alarm off h.judged in
    let in_time = h.in_time (none_is w.alarm off) in
    let well = well_next w.whole log e w.piece.world.config.bounds h.bounds h.whole (c.requires.flawless log h.whole) in
    let failed = err_from_is_err_and c.from_residual.result c.from_residual.ensures.1 in
    rw (failed.1, failed.2) (c.in_err-self.ensures.outcome log none k in_time well)

pub take_in-requires-2 : goal.take_in-requires-2
take_in-requires-2 c =
    let can = c.requires.goes_on in
    next_of c.args.self.now.whole can.log c.args.event.now can.whole (c.requires.flawless can.log can.whole) (let less = c.requires.goes_on.few in let most = c.given-count.ensures.few in let is = c.given-count.ensures.given in omega (arith, less, most, is))

pub returns-then-is_some-2-clause-goes_on : goal.returns-then-is_some-2-clause-goes_on
returns-then-is_some-2-clause-goes_on c = takes_in c.args.self.now _ c.args.event.now c.requires.goes_on c.take_in-2.ensures.next c.take_in-2.ensures.bounds c.follow.ensures.follows c.follow.ensures.config refl

pub returns-then-is_some-2-clause-judges : goal.returns-then-is_some-2-clause-judges
returns-then-is_some-2-clause-judges c = λ log h count.
    let w = c.args.self.now in
    let e = c.args.event.now in
    let off : IsFalse (is_some w.alarm) = search rules in
    let none = no_cycle_before log w.piece w.alarm off h.judged in
    let k = piece_before log w.piece w.alarm off h.judged in
    let in_time = h.in_time (none_is w.alarm off) in
    let well = well_next w.whole log e w.piece.world.config.bounds h.bounds h.whole (c.requires.flawless log h.whole) in
    let on : IsTrue (is_some c.in_ok-self.field-0) = search rules in
    record {
      whole = c.take_in-2.ensures.next log h.whole;
      bounds = c.take_in-2.ensures.bounds ∙ (h.bounds ∙ sym (ap (λ (x : Config). x.bounds) c.follow.ensures.config));
      judged = c.in_ok-self.ensures.outcome log none k in_time well;
      in_time = not_in_time (log ++ e ∷ []) c.follow.new.self c.in_ok-self.field-0 on;
    }

pub returns-clause-goes_on : goal.returns-clause-goes_on
returns-clause-goes_on c = takes_in c.args.self.now _ c.args.event.now c.requires.goes_on c.take_in-2.ensures.next c.take_in-2.ensures.bounds c.cut.ensures.follows (c.cut.ensures.config ∙ c.follow.ensures.config) refl

pub returns-clause-judges : goal.returns-clause-judges
returns-clause-judges c = λ log h count.
    let w = c.args.self.now in
    let e = c.args.event.now in
    let off : IsFalse (is_some w.alarm) = search rules in
    let none = no_cycle_before log w.piece w.alarm off h.judged in
    let k = piece_before log w.piece w.alarm off h.judged in
    let in_time = h.in_time (none_is w.alarm off) in
    let well = well_next w.whole log e w.piece.world.config.bounds h.bounds h.whole (c.requires.flawless log h.whole) in
    let judged = c.in_ok-self.ensures.outcome log none k in_time well in
    let all : List Event = log ++ e ∷ [] in
    let after : IsFalse (is_some c.in_ok-self.field-0) = search rules in
    let acyclic = no_cycle_before all c.follow.new.self c.in_ok-self.field-0 after judged in
    let kept = piece_before all c.follow.new.self c.in_ok-self.field-0 after judged in
    let whole = c.take_in-2.ensures.next log h.whole in
    let many : length all ≡ c.given-count.result = let is = c.given-count.ensures.given in let len = length-append log (e ∷ []) in omega (arith, count, is, len) in
    let new : EndlessWatch = record { reader = w.reader; whole = c.take_in-2.new.self; piece = c.cut.new.self; alarm = c.in_ok-self.field-0 } in
    judges_cut log e w new c.cut.result whole
    (c.take_in-2.ensures.bounds ∙ (h.bounds ∙ sym (ap (λ (x : Config). x.bounds) (c.cut.ensures.config ∙ c.follow.ensures.config))))
    (none_is c.in_ok-self.field-0 after) acyclic
    (on_ok_weaker c.cut.result (λ f. f all whole.heap many acyclic kept) c.cut.ensures.cut)
    (on_ok_weaker c.cut.result (λ f. f all whole.heap log e refl many kept (c.follow.ensures.in_time log in_time)) c.cut.ensures.in_time)
    c.cut.ensures.fault c.cut.ensures.memory
