use Rattle.std.proofs.Common.{◌≡◌, ◌<◌, length, ap, sym, ◌∙◌, arith}
use Rattle.velo_worker.specs.Cursor.{entered}
use Rattle.velo_worker.proofs.OnCursors.{innermost_first-length, entered-push}
use Rattle.velo_worker.proofs.cursor.Cursor.enter_repeat.Goals as goal

pub bounds-self-inside-self-inside : goal.bounds-self-inside-self-inside
bounds-self-inside-self-inside c =
    let count : length c.args.self.now.repeats ≡ c.self.inside.depth = ap (λ s. length s.repeats) (sym c.self.view_is) ∙ innermost_first-length c.self.inside.repeats c.self.inside.depth in
    omega (arith, count, c.requires.room)

pub invariant_of-self-2 : goal.invariant_of-self-2
invariant_of-self-2 c =
    let count : length c.args.self.now.repeats ≡ c.self.inside.depth = ap (λ s. length s.repeats) (sym c.self.view_is) ∙ innermost_first-length c.self.inside.repeats c.self.inside.depth in
    omega (arith, count, c.requires.room)

pub returns : goal.returns
returns c =
    let count : length c.args.self.now.repeats ≡ c.self.inside.depth = ap (λ s. length s.repeats) (sym c.self.view_is) ∙ innermost_first-length c.self.inside.repeats c.self.inside.depth in
    let room : c.self.inside.depth < length c.self.inside.repeats = omega (arith, count, c.requires.room) in
    entered-push c.self.inside.repeats c.self.inside.position c.self.inside.depth c.args.times c.args.end room c.if-times-eq0.false
    ∙ ap (λ s. entered s c.args.times c.args.end) c.self.view_is
