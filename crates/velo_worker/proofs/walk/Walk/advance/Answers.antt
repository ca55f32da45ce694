use Rattle.std.proofs.Common.{◌≡◌, ◌∙◌, Some, None, drop, ap, sym, subst}
use Rattle.std.specs.Prelude.{slice_get}
use Rattle.velo_worker.specs.Cursor.{left_at, past, IsWalk}
use Rattle.velo_worker.proofs.OnWalks.{MayPass-here, left_at-past, IsWalk-past, left_at-first, nothing_dropped}
use Rattle.velo_worker.proofs.walk.Walk.advance.Goals as goal

pub go_past-requires-clause-fits : goal.go_past-requires-clause-fits
go_past-requires-clause-fits c =
    let here : slice_get c.self.inside.body.now c.self.inside.cursor.position ≡ Some c.in-Some.statement = ap (slice_get c.self.inside.body.now) (sym c.position.ensures) ∙ sym c.in-Some.ensures in
    MayPass-here c.self.inside.body.now c.self.inside.cursor c.in-Some.statement here c.self.invariant.stands

pub invariant_of-self : goal.invariant_of-self
invariant_of-self c =
    let here : slice_get c.self.inside.body.now c.self.inside.cursor.position ≡ Some c.in-Some.statement = ap (slice_get c.self.inside.body.now) (sym c.position.ensures) ∙ sym c.in-Some.ensures in
    let after : c.go_past.new.cursor ≡ past c.in-Some.statement c.self.inside.cursor c.self.inside.ends.items = c.go_past.ensures ∙ ap (past c.in-Some.statement c.self.inside.cursor) c.deref.ensures.value in
    subst (IsWalk c.self.inside.body.now c.self.inside.ends.items) (sym after)
    (IsWalk-past c.self.inside.body.now c.self.inside.ends.items c.self.inside.cursor c.in-Some.statement here c.self.invariant)

pub returns-in-Some : goal.returns-in-Some
returns-in-Some c =
    let here : slice_get c.self.inside.body.now c.self.inside.cursor.position ≡ Some c.in-Some.statement = ap (slice_get c.self.inside.body.now) (sym c.position.ensures) ∙ sym c.in-Some.ensures in
    let after : c.go_past.new.cursor ≡ past c.in-Some.statement c.self.inside.cursor c.self.inside.ends.items = c.go_past.ensures ∙ ap (past c.in-Some.statement c.self.inside.cursor) c.deref.ensures.value in
    ap (left_at c.self.inside.body.now) after
    ∙ ap (drop 1) (sym (left_at-past c.self.inside.body.now c.self.inside.ends.items c.self.inside.cursor c.in-Some.statement here c.self.invariant) ∙ c.self.view_is)

pub returns-in_default : goal.returns-in_default
returns-in_default c =
    let past : slice_get c.self.inside.body.now c.self.inside.cursor.position ≡ None = ap (slice_get c.self.inside.body.now) (sym c.position.ensures) ∙ sym c.statement_at.ensures ∙ c.in_default.is in
    nothing_dropped c.args.self.now
    (ap (λ xs. slice_get xs 0) (sym c.self.view_is) ∙ sym (left_at-first c.self.inside.body.now c.self.inside.ends.items c.self.inside.cursor c.self.invariant) ∙ past)
