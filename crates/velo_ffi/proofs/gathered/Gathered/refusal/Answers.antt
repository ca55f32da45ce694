use Rattle.std.proofs.Common.{◌≢◌, subst, sym}
use Rattle.velo_ffi.specs.Gathered.{GatheredText}
use Rattle.velo_ffi.proofs.gathered.Gathered.refusal.Goals as goal

pub invariant_of-result : goal.invariant_of-result
invariant_of-result c = c.self.invariant (subst (λ (text : GatheredText). text.failures ≢ 0) (sym c.self.view_is) c.requires)
