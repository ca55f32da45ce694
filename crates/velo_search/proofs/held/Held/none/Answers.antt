use Rattle.std.proofs.Common.{[], length, sym, ap, ◌∙◌, subst}
use Rattle.std.proofs.lemmas.List.{length-replicate}
use Rattle.velo_heap.specs.Contents.{Tabulates}
use Rattle.velo_heap.proofs.OnTables.{Tabulates-replicate}
use Rattle.velo_search.specs.Free.{hold_after}
use Rattle.velo_search.proofs.OnNotes.{hold_after-nil}
use Rattle.velo_search.proofs.held.Held.none.Goals as goal

pub returns : goal.returns
returns c =
    let items = c.in_ok-locks.ensures.items_if_clones_equal (λ y e. e) in
    record {
      count = ap length items ∙ length-replicate c.args.locks c.none.result;
      table = subst (λ xs. Tabulates xs (hold_after [])) (sym items)
          (Tabulates-replicate c.args.locks c.none.result (hold_after []) (λ m. hold_after-nil m ∙ sym c.none.ensures));
    }
