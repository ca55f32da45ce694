use Rattle.std.proofs.Common.{◌≡◌, ◌<◌, ◌≤◌, length, ap, sym, ◌∙◌, arith}
use Rattle.velo_worker.specs.Cursor.{repeated_or_left}
use Rattle.velo_worker.proofs.OnCursors.{innermost_first-length, repeated_or_left-out, repeated_or_left-back}
use Rattle.velo_worker.proofs.cursor.Cursor.repeat_or_leave.Goals as goal

pub overflow_sub-innermost : goal.overflow_sub-innermost
overflow_sub-innermost c =
    let count : length c.args.self.now.repeats ≡ c.self.inside.depth = ap (λ s. length s.repeats) (sym c.self.view_is) ∙ innermost_first-length c.self.inside.repeats c.self.inside.depth in
    omega (arith, count, c.requires.inside)

pub returns-then-again-eq0 : goal.returns-then-again-eq0
returns-then-again-eq0 c =
    let count : length c.args.self.now.repeats ≡ c.self.inside.depth = ap (λ s. length s.repeats) (sym c.self.view_is) ∙ innermost_first-length c.self.inside.repeats c.self.inside.depth in
    let some : 0 < c.self.inside.depth = omega (arith, count, c.requires.inside) in
    repeated_or_left-out c.self.inside.repeats c.self.inside.position c.self.inside.depth some c.if-again-eq0.true
    ∙ ap (λ s. repeated_or_left s.position s.repeats) c.self.view_is

pub returns : goal.returns
returns c =
    let count : length c.args.self.now.repeats ≡ c.self.inside.depth = ap (λ s. length s.repeats) (sym c.self.view_is) ∙ innermost_first-length c.self.inside.repeats c.self.inside.depth in
    let some : 0 < c.self.inside.depth = omega (arith, count, c.requires.inside) in
    let room : c.self.inside.depth ≤ length c.self.inside.repeats = omega (arith, c.self.invariant) in
    repeated_or_left-back c.self.inside.repeats c.self.inside.position c.self.inside.depth some room c.if-again-eq0.false
    ∙ ap (λ s. repeated_or_left s.position s.repeats) c.self.view_is
