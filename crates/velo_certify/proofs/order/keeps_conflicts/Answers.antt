use Rattle.std.proofs.Common.{refl, arith}
use Rattle.velo_events.proofs.OnReorderings.{conflict_at-within}
use Rattle.velo_certify.proofs.order.keeps_conflicts.Goals as goal

pub returns : goal.returns
returns c = (
  (λ _. record { each = λ i j l clash. c.loop-j.invariant.keeps i j l (let within = (conflict_at-within c.args.events.now i j clash).1 in omega (arith, within, c.loop-j-test.false)) clash }),
  (λ _. refl),
)
