use Rattle.std.proofs.Common.{◌+◌, ◌∷◌, ◌++◌, [], Some, None, set, refl, sym, ap, ◌∙◌, subst}
use Rattle.std.proofs.lemmas.Bool.{eqb-true, false≢true}
use Rattle.std.proofs.lemmas.Option.{none-some, same_Some}
use Rattle.velo_events.specs.declared.event.ThreadId.{ThreadId}
use Rattle.velo_ledger.specs.Shares.{events_in_all, share_at}
use Rattle.velo_runtime.specs.Places.{AreTogether, events_of_all}
use Rattle.velo_runtime.proofs.Places.{no_items, place_is_empty, AreTogether-next, AreTogether-before, events-next, taken_is, places-back, CompletesShares-end, AreTogether-end}
use Rattle.velo_runtime.proofs.Vecs.{same_vec}
use Rattle.velo_runtime.proofs.room.+put_all.Goals as goal

pub returns-then-is_empty-clause-all : goal.returns-then-is_empty-clause-all
returns-then-is_empty-clause-all t c =
    let w = c.args.world.now in let places = c.args.places.now in
    let none = no_items c.args.seats.now.items (sym c.args.seats.now.ok.0 ∙ eqb-true c.args.seats.now.len 0 (sym c.is_empty.ensures ∙ c.if-is_empty.true)) in (
      (λ z. subst (AreTogether w places) (sym none) (AreTogether-end w places c.requires (c.is_complete.ensures.complete.0 z))),
      (λ are. c.is_complete.ensures.complete.1 (CompletesShares-end w places c.requires (subst (AreTogether w places) none are))),
    )

pub returns-in-Err-clause-all : goal.returns-in-Err-clause-all
returns-in-Err-clause-all t c =
    let w = c.args.world.now in let places = c.args.places.now in
    let rest = c.take_last.new.self.items in
    let items = c.take_last.ensures.items ∙ ap (λ s. rest ++ s ∷ []) (sym c.share.view_is) in (
      (λ z. absurd (false≢true z)),
      (λ are. absurd (false≢true (c.in-Err.ensures.ok.1 (place_is_empty w places rest c.share.inside.share (subst (AreTogether w places) items are))))),
    )

pub returns-in-Err-clause-seats : goal.returns-in-Err-clause-seats
returns-in-Err-clause-seats t c z =
    let rest = c.take_last.new.self.items in
    let pushed = ap (λ s. rest ++ s ∷ []) (c.in-Err.ensures.back ∙ c.share.view_is) in
    let len = c.push_reserved.ensures.len ∙ c.take_last.ensures.len in
    same_vec c.push_reserved.new.self c.args.seats.now (c.push_reserved.ensures.in_place ∙ c.take_last.ensures.in_place) len (c.push_reserved.ensures.capacity ∙ c.take_last.ensures.capacity) refl
    (c.push_reserved.ensures.items ∙ (pushed ∙ sym c.take_last.ensures.items))

pub returns-then-put_all-clause-all : goal.returns-then-put_all-clause-all
returns-then-put_all-clause-all t c =
    let w = c.args.world.now in let places = c.args.places.now in
    let rest = c.take_last.new.self.items in
    let items = c.take_last.ensures.items ∙ ap (λ s. rest ++ s ∷ []) (sym c.share.view_is) in
    let empty = c.in_default.ensures.ok.0 refl in
    let all = subst (λ ps. AreTogether w ps rest) c.in_default.ensures.placed (c.put_all.ensures.all.0 c.if-put_all.true) in
    ((λ _. subst (AreTogether w places) (sym items) (AreTogether-before w places rest c.share.inside.share empty c.requires all)), (λ _. refl))

pub returns-then-put_all-clause-total : goal.returns-then-put_all-clause-total
returns-then-put_all-clause-total t c z =
    let w = c.args.world.now in let places = c.args.places.now in
    let rest = c.take_last.new.self.items in
    let items = c.take_last.ensures.items ∙ ap (λ s. rest ++ s ∷ []) (sym c.share.view_is) in
    let empty = c.in_default.ensures.ok.0 refl in
    c.put_all.ensures.total c.if-put_all.true
    ∙ (ap (λ ps. events_in_all ps + events_of_all rest) c.in_default.ensures.placed
    ∙ (events-next w places rest c.share.inside.share empty ∙ ap (λ xs. events_in_all places + events_of_all xs) (sym items)))

pub unreachable-requires : goal.unreachable-requires
unreachable-requires t c =
    let w = c.args.world.now in let places = c.args.places.now in
    let s = c.share.inside.share in
    let empty = c.in_default.ensures.ok.0 refl in
    let taken = c.take.ensures.share
    ∙ (ap (λ ps. share_at ps c.thread-thread.result) (c.put_all.ensures.places c.if-put_all.false ∙ c.in_default.ensures.placed)
    ∙ (ap (share_at (set places s.thread.0 (Some s))) c.thread-thread.ensures ∙ taken_is w places c.take_last.new.self.items s empty)) in
    none-some s (sym c.in_default-take.is ∙ taken)

pub returns-clause-all : goal.returns-clause-all
returns-clause-all t c =
    let w = c.args.world.now in let places = c.args.places.now in
    let rest = c.take_last.new.self.items in
    let items = c.take_last.ensures.items ∙ ap (λ s. rest ++ s ∷ []) (sym c.share.view_is) in
    let empty = c.in_default.ensures.ok.0 refl in (
      (λ z. absurd (false≢true z)),
      (λ are. (let next = AreTogether-next w places rest c.share.inside.share empty (subst (AreTogether w places) items are) in
          absurd (false≢true (sym c.if-put_all.false ∙ c.put_all.ensures.all.1 (subst (λ ps. AreTogether w ps rest) (sym c.in_default.ensures.placed) next))))),
    )

pub returns-clause-places : goal.returns-clause-places
returns-clause-places t c z =
    let w = c.args.world.now in let places = c.args.places.now in
    let s = c.share.inside.share in
    let empty = c.in_default.ensures.ok.0 refl in
    c.take.ensures.after
    ∙ (ap (λ ps. set ps c.thread-thread.result.0 None) (c.put_all.ensures.places c.if-put_all.false ∙ c.in_default.ensures.placed)
    ∙ (ap (λ (u : ThreadId). set (set places s.thread.0 (Some s)) u.0 None) c.thread-thread.ensures ∙ places-back w places c.take_last.new.self.items s empty))

pub returns-clause-seats : goal.returns-clause-seats
returns-clause-seats t c z =
    let w = c.args.world.now in let places = c.args.places.now in
    let s = c.share.inside.share in
    let rest = c.take_last.new.self.items in
    let empty = c.in_default.ensures.ok.0 refl in
    let back = c.put_all.ensures.seats c.if-put_all.false in
    let taken = c.take.ensures.share
    ∙ (ap (λ ps. share_at ps c.thread-thread.result) (c.put_all.ensures.places c.if-put_all.false ∙ c.in_default.ensures.placed)
    ∙ (ap (share_at (set places s.thread.0 (Some s))) c.thread-thread.ensures ∙ taken_is w places rest s empty)) in
    let same = same_Some c.in-Some.share s (sym c.in-Some.is ∙ taken) ∙ c.share.view_is in
    same_vec c.push_reserved-2.new.self c.args.seats.now
    (c.push_reserved-2.ensures.in_place ∙ (ap (λ v. v.ptr) back ∙ c.take_last.ensures.in_place))
    (c.push_reserved-2.ensures.len ∙ (ap (λ v. v.len + 1) back ∙ c.take_last.ensures.len))
    (c.push_reserved-2.ensures.capacity ∙ (ap (λ v. v.cap) back ∙ c.take_last.ensures.capacity))
    refl
    (c.push_reserved-2.ensures.items ∙ (ap (λ v. v.items ++ c.in-Some.share ∷ []) back ∙ (ap (λ x. rest ++ x ∷ []) same ∙ sym c.take_last.ensures.items)))
