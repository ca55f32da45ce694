use Rattle.std.proofs.Common.{[], ◌∷◌, ◌++◌, sym, subst}
use Rattle.velo_heap.specs.Contents.{IsHeapOf}
use Rattle.velo_heap.proofs.OnChanges.{CanChange-admitted, IsHeapOf-apply}
use Rattle.velo_heap.proofs.heap.Heap.apply.Goals as goal

pub change-requires : goal.change-requires
change-requires c = CanChange-admitted c.args.self.now c.args.event.now c.requires

pub returns-clause-next : goal.returns-clause-next
returns-clause-next c = λ trace stands.
    subst (λ heap. IsHeapOf heap (trace ++ c.args.event.now ∷ [])) (sym c.change.ensures.changed)
    (IsHeapOf-apply c.args.self.now c.args.event.now c.change.ensures.few c.requires trace stands)
