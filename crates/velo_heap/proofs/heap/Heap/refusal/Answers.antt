use Rattle.std.proofs.Common.{◌∙◌}
use Rattle.velo_heap.proofs.OnAdmission.{refusal_in-kind_in}
use Rattle.velo_heap.proofs.heap.Heap.refusal.Goals as goal

pub returns : goal.returns
returns c = λ trace stands. c.reason.ensures ∙ refusal_in-kind_in c.args.self.now trace c.args.event.now stands
