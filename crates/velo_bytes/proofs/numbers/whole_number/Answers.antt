use Rattle.std.proofs.Common.{None, Some, arith, rules}
use Rattle.velo_bytes.proofs.OnNumbers.{whole_text, whole_each}
use Rattle.velo_bytes.proofs.numbers.whole_number.Goals as goal

pub returns-then-is_empty-clause-text : goal.returns-then-is_empty-clause-text
returns-then-is_empty-clause-text c = whole_text c.args.most c.args.bytes.now (Some c.in_ok-value.value) c.requires (omega arith) (search rules)

pub returns-then-is_empty-clause-each : goal.returns-then-is_empty-clause-each
returns-then-is_empty-clause-each c = λ n le e. whole_each c.args.most c.args.bytes.now n (Some c.in_ok-value.value) (omega arith) (search rules) le e

pub returns-else-is_empty-clause-each : goal.returns-else-is_empty-clause-each
returns-else-is_empty-clause-each c = λ n le e. whole_each c.args.most c.args.bytes.now n None (omega arith) (search rules) le e

pub returns-in_err-value-clause-each : goal.returns-in_err-value-clause-each
returns-in_err-value-clause-each c = λ n le e. whole_each c.args.most c.args.bytes.now n c.from_residual.result (omega arith) (search rules) le e
