use Rattle.std.proofs.Common.{◌≤◌, length, arith}
use Rattle.velo_filter.specs.Tables.{left_of}
use Rattle.velo_thinning.proofs.OnMarkedOut.{marked-start, marked-next, marked-all}
use Rattle.velo_thinning.proofs.without_ordered.marked_out.Goals as goal

pub loop-variable-init : goal.loop-variable-init
loop-variable-init c = record { out = marked-start c.args.marks.now (left_of c.new-left.result) c.new-left.ensures }

pub loop-variable-preserved : goal.loop-variable-preserved
loop-variable-preserved c = record {
  out = marked-next c.args.marks.now c.loop-variable.variable (left_of c.loop-variable.left) (left_of c.leave_out_marked.new.left) c.in_ok-leave_out_marked.ensures c.loop-variable.invariant.out;
}

pub returns : goal.returns
returns c =
    let all : length c.args.marks.now ≤ c.loop-variable.variable = omega (arith, c.requires.count, c.loop-variable-test.false) in
    marked-all c.args.marks.now c.loop-variable.variable (left_of c.loop-variable.left) all c.loop-variable.invariant.out
