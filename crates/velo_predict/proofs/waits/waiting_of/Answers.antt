use Rattle.std.proofs.Common.{◌≡◌, [], ◌∷◌, ◌++◌, subst, sym, arith}
use Rattle.std.proofs.lemmas.Grind.{common_steps}
use Rattle.std.proofs.lemmas.Option.{slice_get-get_or}
use Rattle.velo_predict.specs.Waits.{IsDue}
use Rattle.velo_predict.proofs.OnDeadlocks.{due-push}
use Rattle.velo_predict.proofs.waits.waiting_of.Goals as goal

pub waiting_at-requires-clause-known : goal.waiting_at-requires-clause-known
waiting_at-requires-clause-known c = c.requires.known c.loop-i.i _ (slice_get-get_or c.args.circle.now c.loop-i.i 0 (grind (arith, common_steps)))

pub waiting_at-requires-clause-next : goal.waiting_at-requires-clause-next
waiting_at-requires-clause-next c = c.requires.next c.loop-i.i _ (slice_get-get_or c.args.circle.now c.loop-i.i 0 (grind (arith, common_steps)))

pub loop-i-preserved : goal.loop-i-preserved
loop-i-preserved c =
    let longer : c.push_reserved.new.self.items ≡ c.loop-i.waiting.items ++ c.waiting_at.result ∷ [] = grind (arith, common_steps) in
    let here = slice_get-get_or c.args.circle.now c.loop-i.i 0 (grind (arith, common_steps)) in
    record {
      threads = grind (arith, common_steps);
      due = λ trace has. due-push c.args.log.now trace c.loop-i.waiting.items c.push_reserved.new.self.items c.waiting_at.result longer (c.loop-i.invariant.due trace has) (subst (λ t. IsDue c.args.log.now trace t c.waiting_at.result.next) (sym c.waiting_at.ensures.thread) (c.waiting_at.ensures.due trace (has c.loop-i.i _ here)));
    }
