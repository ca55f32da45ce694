use Rattle.std.proofs.Common.{◌≡◌, ◌<◌, not, sym, ap, ◌∙◌, arith}
use Rattle.std.specs.Prelude.{count_by, nat_lt, if◌then◌else◌}
use Rattle.std.proofs.lemmas.Bool.{lt-ltb}
use Rattle.velo_search.specs.Parts.{Inside, Outside}
use Rattle.velo_search.proofs.OnOpenBlocks.{any-count}
use Rattle.velo_search.proofs.open_blocks.OpenBlocks.place.Goals as goal

pub returns-then-self-gt0 : goal.returns-then-self-gt0
returns-then-self-gt0 c =
    let blocks = c.args.self.now in
    let some : 0 < count_by not blocks.outs.items = omega (arith, c.if-self-gt0.true, blocks.count) in
    sym (ap (λ b. if b then Inside else Outside) (any-count blocks.outs.items ∙ lt-ltb 0 (count_by not blocks.outs.items) some))

pub returns-else-self-gt0 : goal.returns-else-self-gt0
returns-else-self-gt0 c =
    let blocks = c.args.self.now in
    let none : count_by not blocks.outs.items ≡ 0 = omega (arith, c.if-self-gt0.false, blocks.count) in
    sym (ap (λ b. if b then Inside else Outside) (any-count blocks.outs.items ∙ ap (nat_lt 0) none))
