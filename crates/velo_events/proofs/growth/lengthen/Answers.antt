use Rattle.std.proofs.Common.{◌≡◌, List, Result, Ok, Err, vec_len, sym, ◌∙◌, arith}
use Rattle.std.specs.Prelude.{if◌then◌else◌, is_ok, OnOk}
use Rattle.velo_events.proofs.OnFilling.{filled_up-short}
use Rattle.velo_events.proofs.growth.lengthen.Goals as goal

filled-at-ok : {A E X : Type 0} (r : Result A E) (new done old filled : List X) → new ≡ (if is_ok r then done else old) → done ≡ filled → OnOk r (new ≡ filled)
filled-at-ok (Ok x) new done old filled is all = is ∙ all
filled-at-ok (Err e) new done old filled is all = tt

pub returns-clause-ok : goal.returns-clause-ok
returns-clause-ok g c =
    let before = c.args.items.now in
    filled-at-ok c.resize.result _ _ _ _ c.resize.ensures.items
    (filled_up-short c.args.blank c.args.count (vec_len before) before.items (sym before.ok.0) (omega (arith, c.requires, before.ok.0)))
