use Rattle.std.proofs.Common.{arith, sym, ap, ◌∙◌}
use Rattle.std.proofs.lemmas.Grind.{common_steps}
use Rattle.velo_heap.proofs.OnAdmission.{event_by, admission-kind_in}
use Rattle.velo_heap.proofs.heap.Heap.admit.Goals as goal

pub returns-in_err-kind : goal.returns-in_err-kind
returns-in_err-kind c = λ trace stands.
    let outcome = ap (event_by c.args.thread) (sym (c.in_err-kind.was) ∙ c.kind_for.ensures) ∙ admission-kind_in c.args.self.now trace c.args.thread c.args.action stands in
    grind (arith, common_steps)

pub returns : goal.returns
returns c = λ trace stands.
    ap (event_by c.args.thread) (sym (c.in_ok-kind.was) ∙ c.kind_for.ensures) ∙ admission-kind_in c.args.self.now trace c.args.thread c.args.action stands
