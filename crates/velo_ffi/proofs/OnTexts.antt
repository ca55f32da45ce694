-- What is told of a whole log.
use Rattle.std.proofs.Common.{◌≡◌, ◌≢◌, ◌∙◌, ap, arith}
use Rattle.std.specs.Prelude.{ℕ}
use Rattle.velo_bytes.specs.Device.{with_failure}

-- after the first failure of a sink its count is not 0
pub has_failed : (before after : ℕ) → before ≡ 0 → after ≡ with_failure before → after ≢ 0
has_failed before after none failed is = (let one : after ≡ 1 = failed ∙ ap with_failure none in omega (arith, one, is))
