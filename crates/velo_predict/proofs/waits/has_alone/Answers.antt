use Rattle.std.proofs.Common.{◌≤◌, subst, sym}
use Rattle.velo_heap.specs.Contents.{bounds_of}
use Rattle.velo_predict.proofs.OnWaits.{alone-beyond}
use Rattle.velo_predict.proofs.waits.has_alone.Goals as goal

pub returns-then-m-bounds : goal.returns-then-m-bounds
returns-then-m-bounds c = λ trace stands. sym (alone-beyond (bounds_of c.args.heap.now) trace stands.well_formed c.args.m.0 c.args.thread.0 (subst (λ b. b.locks ≤ c.args.m.0) (sym c.requires) c.if-m-bounds.true))
