use Rattle.std.proofs.Common.{◌≡◌, [], false, replicate, subst, sym, ap, ◌∙◌, arith}
use Rattle.std.specs.Prelude.{slice_get}
use Rattle.std.proofs.lemmas.Grind.{common_steps}
use Rattle.velo_predict.specs.Differences.{AreDifferences}
use Rattle.velo_predict.specs.declared.judge.Course.{Course}
use Rattle.velo_predict.proofs.OnCourses.{IsPrediction-nil, TellsLoose-start, courses_start}
use Rattle.velo_predict.proofs.OnDifferences.{AreDifferences-nil}
use Rattle.velo_events.proofs.OnWellFormed.{IsWellFormed-nil}
use Rattle.velo_predict.proofs.judge.Judged.new.Goals as goal

pub returns : goal.returns
returns c = λ log.
    let start : Course = record { place = 0; is_unsure = false } in
    let courses : c.in_ok-courses.courses.items ≡ replicate c.args.config.now.bounds.threads start = grind (arith, common_steps) in
    let empty : c.new-2.result.items ≡ [] = grind (arith, common_steps) in
    record {
      heap = c.in_ok-heap.ensures.start;
      same_bounds = c.in_ok-heap.ensures.bounds;
      count = grind (arith, common_steps);
      courses = λ t course at. courses_start log c.args.config.now.bounds.threads t course (ap (λ cs. slice_get cs t) (sym courses) ∙ at);
      loose = TellsLoose-start log;
      differing = subst (AreDifferences log []) (sym empty) (AreDifferences-nil log);
      prediction = IsPrediction-nil c.args.config.now.bounds log (IsWellFormed-nil c.args.config.now.bounds);
    }
