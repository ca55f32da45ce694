use Rattle.std.proofs.Common.{◌≡◌, ◌+◌, sym, ap, ◌∙◌, arith}
use Rattle.std.specs.Prelude.{if◌then◌else◌}
use Rattle.velo_laws.specs.Length.{counted}
use Rattle.velo_filter.specs.Tables.{marked}
use Rattle.velo_thinning.proofs.OnCounting.{counted-zero, counted-suc}
use Rattle.velo_thinning.proofs.counting.count_marked.Goals as goal
use Rattle.velo_thinning.proofs.counting.count_marked.Goals.{then-marks-number, else-marks-number}

pub loop-number-init : goal.loop-number-init
loop-number-init c = record { is = sym (counted-zero (marked c.args.marks.now)); most = omega arith }

pub loop-number-preserved : goal.loop-number-preserved
loop-number-preserved c =
    let test = marked c.args.marks.now in
    let n = c.loop-number.number in
    let more = counted-suc n test in
    elim c.if-marks-number.branch [
      | then-marks-number w ↦
          let next : counted (n + 1) test ≡ counted n test + 1 = more ∙ ap (λ b. counted n test + (if b then 1 else 0)) w.if-marks-number.true in
          record {
            is = omega (arith, w.count-is, next, c.loop-number.invariant.is);
            most = omega (arith, w.count-is, c.loop-number.invariant.most);
          }
      | else-marks-number w ↦
          let next : counted (n + 1) test ≡ counted n test + 0 = more ∙ ap (λ b. counted n test + (if b then 1 else 0)) w.if-marks-number.false in
          record {
            is = omega (arith, w.count-is, next, c.loop-number.invariant.is);
            most = omega (arith, w.count-is, c.loop-number.invariant.most);
          }
    ]
