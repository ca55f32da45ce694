use Rattle.std.proofs.Common.{arith, rules}
use Rattle.std.proofs.lemmas.Fmt.{length-decimal-le}
use Rattle.velo_report.proofs.OnLines.{spaced-written}
use Rattle.velo_report.proofs.lines.write_spaced.Goals as goal

pub write_digits-start-requires : goal.write_digits-start-requires
write_digits-start-requires c = search (rules, length-decimal-le 20)

pub overflow_sub-start : goal.overflow_sub-start
overflow_sub-start c =
    let few = length-decimal-le 20 c.args.number (omega arith) (omega arith) (omega arith) in
    let all = c.write_digits-start.ensures.start in
    omega (arith, all, few)

pub returns-clause-all : goal.returns-clause-all
returns-clause-all c =
    let few = length-decimal-le 20 c.args.number (omega arith) (omega arith) (omega arith) in
    let all = c.write_digits-start.ensures.start in
    omega (arith, all, few)

pub returns-clause-written : goal.returns-clause-written
returns-clause-written c =
    let few = length-decimal-le 20 c.args.number (omega arith) (omega arith) (omega arith) in
    let all = c.write_digits-start.ensures.start in
    spaced-written c.args.number c.write_digits-start.result c.args.text.now c.write_digits-start.new.buf (omega arith) (omega arith) (omega (arith, all, few)) all c.write_digits-start.ensures.written
