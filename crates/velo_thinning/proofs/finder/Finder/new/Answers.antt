use Rattle.std.proofs.Common.{refl}
use Rattle.velo_thinning.proofs.OnFinding.{found-start}
use Rattle.velo_thinning.proofs.finder.Finder.new.Goals as goal

pub returns : goal.returns
returns c = λ log. found-start log _ 256 65536 65536
    (c.in_ok-near.ensures.items_if_clones_equal (λ y same. same))
    (c.in_ok-written.ensures.items_if_clones_equal (λ y same. same))
    (c.in_ok-accessed.ensures.items_if_clones_equal (λ y same. same)) refl refl refl
