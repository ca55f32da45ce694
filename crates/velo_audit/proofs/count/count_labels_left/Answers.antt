use Rattle.std.proofs.Common.{sym, subst}
use Rattle.velo_filter.specs.Tables.{left_of}
use Rattle.velo_audit.specs.Count.{IsCountedTo}
use Rattle.velo_audit.proofs.OnCount.{IsCountedTo-start}
use Rattle.velo_audit.proofs.count.count_labels_left.Goals as goal

pub loop-position-init : goal.loop-position-init
loop-position-init c = record {
  stands = subst (λ s. IsCountedTo (left_of c.args.left.now) c.as_slice-events.result.now 0 s 0) (sym c.new-seen.ensures) (IsCountedTo-start (left_of c.args.left.now) c.as_slice-events.result.now);
}
