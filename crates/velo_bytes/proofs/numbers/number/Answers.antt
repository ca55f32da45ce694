use Rattle.std.proofs.Common.{arith}
use Rattle.velo_bytes.proofs.numbers.number.Goals as goal

pub near_digits-requires-clause-near : goal.near_digits-requires-clause-near
near_digits-requires-clause-near c = omega arith
