use Rattle.std.proofs.Common.{◌≡◌, ◌<◌, true, length, map, Some, sym, ap, ◌∙◌, subst, arith}
use Rattle.std.specs.Prelude.{slice_get}
use Rattle.std.proofs.lemmas.Grind.{common_steps}
use Rattle.std.proofs.lemmas.Option.{slice_get-get_or}
use Rattle.velo_filter.specs.Left.{nothing}
use Rattle.velo_audit.specs.Audit.{TellsTruly, AreWitnessed}
use Rattle.velo_audit.specs.Rounds.{Rounds}
use Rattle.velo_audit.specs.Tells.{numbers_of}
use Rattle.velo_delays.proofs.OnFound.{first-round, first-witness, first-each}
use Rattle.velo_delays.proofs.judged.told_of.Goals as goal

pub returns-in-Ok-clause-first : goal.returns-in-Ok-clause-first
returns-in-Ok-clause-first c =
    let some : 0 < length c.in-Ok.rounds.items = grind (arith, common_steps) in
    let first : slice_get c.in-Ok.rounds.items 0 ≡ Some c.swap_remove.result = slice_get-get_or c.in-Ok.rounds.items 0 c.swap_remove.result some ∙ ap Some (sym c.swap_remove.ensures.value) in
    first-round c.args.trace.now.events nothing c.in-Ok.rounds.items c.swap_remove.result first
    (subst (λ left. Rounds c.args.trace.now.events left (map numbers_of c.in-Ok.rounds.items)) c.new.ensures c.in-Ok.ensures.rounds)

pub returns-in-Ok-clause-truly : goal.returns-in-Ok-clause-truly
returns-in-Ok-clause-truly c =
    let some : 0 < length c.in-Ok.rounds.items = grind (arith, common_steps) in
    let first : slice_get c.in-Ok.rounds.items 0 ≡ Some c.swap_remove.result = slice_get-get_or c.in-Ok.rounds.items 0 c.swap_remove.result some ∙ ap Some (sym c.swap_remove.ensures.value) in
    first-each (TellsTruly c.args.trace.now.events) c.in-Ok.rounds.items c.swap_remove.result first c.in-Ok.ensures.truly

pub returns-in-Ok-clause-witness : goal.returns-in-Ok-clause-witness
returns-in-Ok-clause-witness c =
    let some : 0 < length c.in-Ok.rounds.items = grind (arith, common_steps) in
    let first : slice_get c.in-Ok.rounds.items 0 ≡ Some c.swap_remove.result = slice_get-get_or c.in-Ok.rounds.items 0 c.swap_remove.result some ∙ ap Some (sym c.swap_remove.ensures.value) in
    first-witness c.args.trace.now.events nothing c.in-Ok.rounds.items c.swap_remove.result first
    (subst (λ left. AreWitnessed true c.args.trace.now.events left c.in-Ok.rounds.items) c.new.ensures c.in-Ok.ensures.witnessed)
