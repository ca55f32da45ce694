use Rattle.std.proofs.Common.{ap, ℕ, Bool}
use Rattle.std.specs.Prelude.{slice_index_or, false}
use Rattle.velo_filter.specs.Left.{nothing}
use Rattle.velo_filter.proofs.OnTables.{left_same}
use Rattle.velo_filter.proofs.left.LeftOut.new.Goals as goal

pub returns : goal.returns
returns c = left_same _ nothing
    (λ l. ap (λ (f : ℕ → Bool). f l) c.new.ensures)
    (λ m. ap (λ xs. slice_index_or xs m false) c.new-2.ensures.items)
    (λ x. ap (λ xs. slice_index_or xs x false) c.new-3.ensures.items)
