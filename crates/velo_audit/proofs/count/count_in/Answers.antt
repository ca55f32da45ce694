use Rattle.std.proofs.Common.{◌≡◌, ◌+◌, ◌∷◌, [], ap, sym, ◌∙◌, arith, ℕ}
use Rattle.std.specs.Prelude.{if◌then◌else◌}
use Rattle.velo_filter.specs.Tables.{left_of, members}
use Rattle.velo_audit.proofs.OnCount.{IsCountedTo-again, IsCountedTo-new, IsCountedTo-none, no_label}
use Rattle.velo_audit.proofs.count.count_in.Goals as goal
use Rattle.velo_audit.proofs.count.count_in.Goals.{then-not-has_label, else-not-has_label}

pub returns-in_default : goal.returns-in_default
returns-in_default c =
    IsCountedTo-none (left_of c.args.left.now) c.args.events.now c.args.position c.requires.within (members c.args.seen.now) c.args.count.now c.requires.stands (no_label _ c.in_default.not-Begin)

pub returns-then-contains : goal.returns-then-contains
returns-then-contains c =
    IsCountedTo-again (left_of c.args.left.now) c.args.events.now c.args.position c.requires.within (members c.args.seen.now) c.args.count.now c.requires.stands c.in-Begin.label c.in-Begin.is (sym c.if-contains.ensures)

pub returns : goal.returns
returns c =
    let new = IsCountedTo-new (left_of c.args.left.now) c.args.events.now c.args.position c.requires.within (members c.args.seen.now) c.args.count.now c.requires.stands c.in-Begin.label c.in-Begin.is (sym c.if-contains.ensures) _ c.in_ok-insert.ensures.ok in
    elim c.if-not-has_label.branch [
      | then-not-has_label w ↦
          rw w.count-is (new _ (ap (λ b. c.args.count.now + (if b then 0 else 1)) (sym w.if-not-has_label.true ∙ c.has_label.ensures)))
      | else-not-has_label w ↦
          rw w.count-is (new _ (same ∙ ap (λ b. c.args.count.now + (if b then 0 else 1)) (sym w.if-not-has_label.false ∙ c.has_label.ensures)))
    ]
  where
    same : c.args.count.now ≡ c.args.count.now + 0
    same = omega arith
