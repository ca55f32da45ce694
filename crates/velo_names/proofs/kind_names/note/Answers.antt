use Rattle.std.proofs.Common.{◌++◌, ◌∷◌, [], ap, sym, ◌∙◌}
use Rattle.std.specs.Prelude.{is_some}
use Rattle.velo_names.proofs.OnLists.{kept, noted, on_either, some_at}
use Rattle.velo_names.proofs.kind_names.note.Goals as goal

pub returns-in_err-reserve-clause-err : goal.returns-in_err-reserve-clause-err
returns-in_err-reserve-clause-err c =
    let w = c.reserve.new.items in
    let there = c.in-Some.ensures.value in
    on_either c.from_residual.result (kept c.args.index.now (c.get_mut.follows.lender w) c.args.name w ((c.get_mut.follows.holds w).3 (sym (ap is_some there))).0
    (c.reserve.ensures.items ∙ sym (some_at c.args.index.now c.args.name c.in-Some.numbers.now (sym there))))

pub returns-in-Some-clause-ok : goal.returns-in-Some-clause-ok
returns-in-Some-clause-ok c =
    let w = c.push_reserved.new.self in
    let there = c.in-Some.ensures.value in
    noted c.args.index.now (c.get_mut.follows.lender w) c.args.name w (c.args.number ∷ []) ((c.get_mut.follows.holds w).3 (sym (ap is_some there))).0
    (c.push_reserved.ensures.items
    ∙ ap (λ ns. ns ++ c.args.number ∷ []) (c.reserve.ensures.items ∙ sym (some_at c.args.index.now c.args.name c.in-Some.numbers.now (sym there))))
