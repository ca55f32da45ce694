use Rattle.std.proofs.Common.{◌≡◌, ◌<◌, [], ◌∷◌, ◌++◌, Some, length, arith}
use Rattle.std.specs.Prelude.{slice_get}
use Rattle.std.proofs.lemmas.Grind.{common_steps}
use Rattle.velo_predict.specs.Deadlocks.{IsNextAction, WaitsFor}
use Rattle.velo_predict.proofs.OnDeadlocks.{rows-all}
use Rattle.velo_predict.proofs.OnFollowing.{item_at}
use Rattle.velo_predict.proofs.OnWaits.{rows-push}
use Rattle.velo_predict.proofs.waits.rows_of.Goals as goal

pub row_of-requires-clause-place : goal.row_of-requires-clause-place
row_of-requires-clause-place c =
    let stands = c.requires.stands.1 in
    let within : c.loop-t.t < length c.args.judged.now.courses.items = omega (arith, c.loop-t-test.true, stands.count) in
    let here : slice_get c.args.judged.now.courses.items c.loop-t.t ≡ Some c.index-course.result.now = item_at c.args.judged.now.courses.items c.loop-t.t c.index-course.result.now within (grind (arith, common_steps)) in
    (stands.courses c.loop-t.t c.index-course.result.now here).within

pub loop-t-preserved : goal.loop-t-preserved
loop-t-preserved c =
    let longer : c.push_reserved.new.self.items ≡ c.loop-t.rows.items ++ c.row_of.result ∷ [] = grind (arith, common_steps) in
    record {
      count = grind (arith, common_steps);
      each = λ trace stands.
          let within : c.loop-t.t < length c.args.judged.now.courses.items = omega (arith, c.loop-t-test.true, stands.count) in
          let here : slice_get c.args.judged.now.courses.items c.loop-t.t ≡ Some c.index-course.result.now = item_at c.args.judged.now.courses.items c.loop-t.t c.index-course.result.now within (grind (arith, common_steps)) in
          rows-push c.loop-t.rows.items c.row_of.result c.push_reserved.new.self.items c.loop-t.t (WaitsFor (IsNextAction c.args.log.now trace) trace) c.loop-t.invariant.count longer (c.loop-t.invariant.each trace stands)
          (c.row_of.ensures trace stands.heap (stands.courses c.loop-t.t c.index-course.result.now here));
    }

pub returns : goal.returns
returns c = λ trace stands.
    let all : c.loop-t.t ≡ c.args.bounds.threads = omega (arith, c.loop-t-test.false, c.loop-t.auto.t-end) in
    rows-all c.args.bounds c.args.log.now trace c.loop-t.rows.items stands.prediction.well_formed c.requires.some (omega (arith, c.loop-t.invariant.count, all)) (λ t u within. c.loop-t.invariant.each trace stands t u (omega (arith, within, all)))
